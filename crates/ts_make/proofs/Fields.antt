-- The fields of what is signed, one after another.
use Rattle.std.proofs.Common.{◌≡◌, ℕ, ◌≤◌, List, [], ◌∷◌, ◌++◌, length, refl, ap, append_assoc, arith, length-append}
use Rattle.ts_der.specs.Element.{encode, length_octets}
use Rattle.ts_sig.specs.StandIn.{algorithm_identifier}
use Rattle.ts_cert.specs.declared.version.Version.TheVariants.{V3}
use Rattle.ts_cert.specs.Encoding.{version_octets}
use Rattle.ts_make.specs.declared.description.CertText.{CertText}
use Rattle.ts_make.specs.Serial.{serial_content}
use Rattle.ts_make.specs.Made.{name_octets, key_octets, tbs_content}
use Rattle.ts_make.specs.Extensions.{described_extensions, field_octets}

-- version 3
pub version-3 : 0xA0 ∷ 3 ∷ 2 ∷ 1 ∷ 2 ∷ [] ≡ version_octets V3
unfolding length_octets
version-3 = refl

-- the fields up to the issuer
started : (v s a i f1 f2 f3 f4 : List ℕ) → f1 ≡ v → f2 ≡ f1 ++ s → f3 ≡ f2 ++ a → f4 ≡ f3 ++ i → f4 ≡ ((v ++ s) ++ a) ++ i
started v s a i f1 f2 f3 f4 e1 e2 e3 e4 = cc

-- and the four after it
joined : (v s a i p u k x f4 : List ℕ) → f4 ≡ ((v ++ s) ++ a) ++ i → (((f4 ++ p) ++ u) ++ k) ++ x ≡ v ++ (s ++ (a ++ (i ++ (p ++ (u ++ (k ++ x))))))
joined v s a i p u k x f4 e = rw e (simp append_assoc)

-- what is signed: the fields up to the issuer, which are written, and those behind it
pub content : (text : CertText) (before after f1 f2 f3 f4 : List ℕ) → f1 ≡ version_octets V3 → f2 ≡ f1 ++ encode 0x02 (serial_content text.serial)
    → f3 ≡ f2 ++ algorithm_identifier → f4 ≡ f3 ++ name_octets text.issuer.now
    → (((f4 ++ encode 0x30 (before ++ after)) ++ name_octets text.subject.now) ++ key_octets text.key.now)
    ++ field_octets (described_extensions text.extensions.now) ≡ tbs_content before after text
unfolding tbs_content
content text before after f1 f2 f3 f4 e1 e2 e3 e4 =
    let v = version_octets V3 in
    let s = encode 0x02 (serial_content text.serial) in
    let i = name_octets text.issuer.now in
    joined v s algorithm_identifier i (encode 0x30 (before ++ after)) (name_octets text.subject.now) (key_octets text.key.now)
    (field_octets (described_extensions text.extensions.now)) f4 (started v s algorithm_identifier i f1 f2 f3 f4 e1 e2 e3 e4)

-- a front is no longer than the whole
pub front : (a b whole : List ℕ) → a ++ b ≡ whole → length a ≤ length whole
front a b whole e = omega (arith, length-append a b, ap length e)

-- three parts one after another
pub behind : (a b c d : List ℕ) → a ++ (b ++ (c ++ d)) ≡ ((a ++ b) ++ c) ++ d
behind a b c d = simp append_assoc
