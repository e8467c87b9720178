-- Named bits, as they are read, encoded and refused.
use Rattle.std.proofs.Common.{◌≡◌, ℕ, Bool, List, None, ap, ◌∙◌}
use Rattle.ts_der.specs.Octets.{AreOctets}
use Rattle.ts_der.specs.Rules.{first_broken, value_unless}
use Rattle.ts_der.specs.BitString.{bits_of, bit_parts, named_bits_rules}
use Rattle.ts_der.proofs.BitStrings.{bits-only, named-found, named-only}
use Rattle.ts_der.proofs.RuleLists.{checked-value}
use Rattle.ts_shape.specs.Shape.{plain}
use Rattle.ts_ext.specs.NamedBits.{named_bits_in, IsNamedBits}
use Rattle.ts_ext.specs.Encoding.{IsKeyUsage, AreReasonFlags}
use Rattle.ts_ext.specs.Table.{key_usage_rules, reason_flags_rules}
use Rattle.ts_ext.specs.Reading.{key_usage_of, reason_flags_of}
use Rattle.ts_ext.proofs.Formats.{Format, by_der_rules}

bits-kept : (c : List ℕ) → AreOctets c → first_broken named_bits_rules c ≡ None → IsNamedBits c (named_bits_in c)
bits-kept c fits kept =
    let f = named-found c (bit_parts c) (ap (λ o. value_unless o (bit_parts c)) kept) in
    record { encoded = f.0; shortest = f.1 }

bits-encoded : (c : List ℕ) (bits : List Bool) → IsNamedBits c bits → (first_broken named_bits_rules c ≡ None) × (named_bits_in c ≡ bits)
bits-encoded c bits is =
    let s = is.encoded in
    let v = checked-value (first_broken named_bits_rules c) (bit_parts c) (s.unused, s.octets) (named-only c bits s is.shortest) in
    (v.0, ap (λ (p : ℕ × List ℕ). bits_of p.0 p.1) v.1 ∙ (bits-only c bits s).1)

pub key_usage-format : Format key_usage_of IsKeyUsage plain key_usage_rules
unfolding key_usage_of
key_usage-format = by_der_rules named_bits_rules named_bits_in IsNamedBits bits-kept bits-encoded

pub reason_flags-format : Format reason_flags_of AreReasonFlags plain reason_flags_rules
unfolding reason_flags_of
reason_flags-format = by_der_rules named_bits_rules named_bits_in IsNamedBits bits-kept bits-encoded
