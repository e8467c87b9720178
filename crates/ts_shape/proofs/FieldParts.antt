-- Fields that more than one format has, each as it is read and encoded.
use Rattle.std.proofs.Common.{◌≡◌, ℕ, Bool, true, false, cond, not, eqb, List, [], ◌∷◌, Some, None, Ok, refl, sym, ap, ◌∙◌}
use Rattle.std.specs.Prelude.{drop}
use Rattle.std.proofs.lemmas.Bool.{eqb-true}
use Rattle.ts_der.specs.declared.fault.DerFault.{DerFault}
use Rattle.ts_der.specs.declared.fault.DerFault.TheVariants.{IntegerForm, OidForm, BitsForm}
use Rattle.ts_der.specs.declared.fault.Fault.{Fault}
use Rattle.ts_der.specs.Octets.{AreOctets}
use Rattle.ts_der.specs.Rules.{first_broken, value_unless}
use Rattle.ts_der.specs.Element.{Tlv, encode}
use Rattle.ts_der.specs.Integer.{is_shortest, integer_rules}
use Rattle.ts_der.specs.BitString.{whole_octets_rules}
use Rattle.ts_der.specs.ObjectIdentifier.{is_oid, oid_rules}
use Rattle.ts_der.specs.Reading.{at_element, value_at}
use Rattle.ts_der.proofs.Laws.{ok_is}
use Rattle.ts_shape.specs.Fields.{Within, IsOid, IsInteger, IsBits, oid_at, integer_at, bits_at}
use Rattle.ts_shape.proofs.Parts.{Part, within-part}

-- ---- values that are the content itself, where it meets a test

tested : (kind : DerFault) (b : Bool) (at : ℕ) (x y : List ℕ) → at_element at (value_unless (cond (not b) (Some kind) None) x) ≡ Ok y → (x ≡ y) × (b ≡ true)
tested kind true at x y e = (ok_is {E = Fault} x y e, refl)
tested kind false at x y e = absurd cc

oid-found : (e : Tlv) (x : List ℕ) → AreOctets e.content → e.whole ≡ encode 0x06 e.content → value_at oid_rules (λ c. c) e ≡ Ok x → IsOid e.content x
oid-found e x fits w read = let t = tested OidForm (is_oid e.content) e.at e.content x read in (t.0, ap is_oid (sym t.0) ∙ t.1)

oid-again : (e : Tlv) (x : List ℕ) → e.whole ≡ encode 0x06 e.content → IsOid e.content x → value_at oid_rules (λ c. c) e ≡ Ok x
oid-again e x w is = rw (is.0, is.1) refl

pub oid-part : Part oid_at (Within 0x06 IsOid)
unfolding oid_at
oid-part = within-part 0x06 (value_at oid_rules (λ c. c)) IsOid (record { found = oid-found; again = oid-again })

integer-found : (e : Tlv) (x : List ℕ) → AreOctets e.content → e.whole ≡ encode 0x02 e.content → value_at integer_rules (λ c. c) e ≡ Ok x → IsInteger e.content x
integer-found e x fits w read = let t = tested IntegerForm (is_shortest e.content) e.at e.content x read in (t.0, ap is_shortest (sym t.0) ∙ t.1)

integer-again : (e : Tlv) (x : List ℕ) → e.whole ≡ encode 0x02 e.content → IsInteger e.content x → value_at integer_rules (λ c. c) e ≡ Ok x
integer-again e x w is = rw (is.0, is.1) refl

pub integer-part : Part integer_at (Within 0x02 IsInteger)
unfolding integer_at
integer-part = within-part 0x02 (value_at integer_rules (λ c. c)) IsInteger (record { found = integer-found; again = integer-again })

bits-ok : (c : List ℕ) (at : ℕ) (x : List ℕ) → at_element at (value_unless (first_broken whole_octets_rules c) (drop 1 c)) ≡ Ok x → c ≡ 0 ∷ x
bits-ok [] at x e = absurd cc
bits-ok (u ∷ octets) at x e = by_test (eqb u 0) refl e
  where
    by_test : (b : Bool) → eqb u 0 ≡ b → at_element at (value_unless (cond (not b) (Some BitsForm) None) octets) ≡ Ok x → u ∷ octets ≡ 0 ∷ x
    by_test true t e = ap (λ (v : ℕ). v ∷ octets) (eqb-true u 0 t) ∙ ap (λ (os : List ℕ). 0 ∷ os) (ok_is {E = Fault} octets x e)
    by_test false t e = absurd cc

bits-again : (e : Tlv) (x : List ℕ) → e.whole ≡ encode 0x03 e.content → IsBits e.content x → value_at whole_octets_rules (λ c. drop 1 c) e ≡ Ok x
bits-again e x w is = rw is refl

pub bits-part : Part bits_at (Within 0x03 IsBits)
unfolding bits_at
bits-part = within-part 0x03 (value_at whole_octets_rules (λ c. drop 1 c)) IsBits (record { found = λ e x fits w read. bits-ok e.content e.at x read; again = bits-again })
