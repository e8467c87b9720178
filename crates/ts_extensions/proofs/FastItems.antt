-- Extensions of a certificate that are recognised by their first octets.
use Rattle.std.proofs.Common.{◌≡◌, ℕ, zero, suc, ◌+◌, ◌%◌, ◌<◌, ◌≤◌, Bool, true, false, List, []}
use Rattle.std.proofs.Common.{◌∷◌, ◌++◌, ◌&&◌, length, take, drop, get_or, Option, Some, None, refl}
use Rattle.std.proofs.Common.{sym, ap, ap₂, subst, ◌∙◌, leb, arith}
use Rattle.std.proofs.lemmas.Bool.{leb-true, and_parts, false≢true}
use Rattle.std.proofs.lemmas.List.{length-append, length-take-le, length-drop}
use Rattle.std.proofs.Math.Seq.{drop-cons}
use Rattle.ts_der.specs.Between.{lie_between}
use Rattle.ts_der.specs.Boolean.{boolean_content}
use Rattle.ts_der.specs.Element.{Fits, encode, length_octets}
use Rattle.ts_der.proofs.Lengths.{length_octets-short}
use Rattle.ts_ext.specs.declared.known.Known.{Known}
use Rattle.ts_ext.specs.declared.known.Known.TheVariants.{SubjectKeyIdentifier, KeyUsage, BasicConstraints, AuthorityKeyIdentifier}
use Rattle.ts_ext.specs.declared.known.Holder.TheVariants.{Certificate}
use Rattle.ts_ext.specs.Ext.{subjectKeyIdentifier, keyUsage, basicConstraints, authorityKeyIdentifier}
use Rattle.ts_extensions.specs.Extension.{Extension, IsExtension}
use Rattle.ts_ext.specs.Known.{known_at, extension_of, certificate_extension}
use Rattle.ts_extensions.specs.Valid.{IsValidUnder}
use Rattle.ts_ext.specs.Encoding.{IfTrue}
use Rattle.ts_extensions.specs.ValueRules.{IsValidValue}
use Rattle.ts_extensions.proofs.UriPoints.{few-within}
use Rattle.ts_extensions.proofs.FastValues.{of-authority, crl-sign-last, key-alone, short-extension, sound-value}

-- octets between bounds that are equal at the front are those of the bounds there
front : (n : ℕ) (low high octets : List ℕ) → lie_between low high octets ≡ true → take n low ≡ take n high → n ≤ length low → octets ≡ take n low ++ drop n octets
front zero low high octets h same few = refl
front (suc n) [] high octets h same few = absurd (omega arith)
front (suc n) (l ∷ low) [] octets h same few = absurd (false≢true h)
front (suc n) (l ∷ low) (g ∷ high) [] h same few = absurd (false≢true h)
front (suc n) (l ∷ low) (g ∷ high) (x ∷ octets) h same few =
    let parts = and_parts (leb l x && leb x g) (lie_between low high octets) h in
    let bounds = and_parts (leb l x) (leb x g) parts.0 in
    let least = leb-true l x bounds.0 in
    let most = leb-true x g bounds.1 in
    let first : l ≡ g = ap (λ (o : List ℕ). get_or o 0 0) same in
    let here : x ≡ l = omega arith in
    ap₂ (λ (o : ℕ) (more : List ℕ). o ∷ more) here (front n low high octets parts.1 (ap (λ (o : List ℕ). drop 1 o) same) (omega arith))

-- an extension under 2.5.29, with lengths of one octet, and a value that breaks no rule
sound-item : (known : Known) (arc n m : ℕ) (flag value : List ℕ) (critical : Bool) → arc < 128
    → extension_of Certificate arc ≡ Some known → IfTrue 0x01 flag critical → length value ≡ m
    → m < 128 → n ≡ 7 + (length flag + m) → n < 128
    → IsValidValue (Some known) value → IsValidUnder arc (0x30 ∷ n ∷ 0x06 ∷ 3 ∷ 0x55 ∷ 0x1D ∷ arc ∷ (flag ++ (0x04 ∷ m ∷ value)))
unfolding known_at
sound-item known arc n m flag value critical small is_known is count few size short sound =
    let content : List ℕ = 0x06 ∷ 3 ∷ 0x55 ∷ 0x1D ∷ arc ∷ (flag ++ (0x04 ∷ m ∷ value)) in
    let x : Extension = record { extnID = 0x55 ∷ 0x1D ∷ arc ∷ []; critical = critical; extnValue = value } in
    let fits : Fits 0x04 value = record { octet = omega arith; low = λ e. omega arith; short = omega (arith, count) } in
    let encoded : 0x04 ∷ m ∷ value ≡ encode 0x04 value = ap (λ (o : List ℕ). 0x04 ∷ (o ++ value)) (sym (ap length_octets count ∙ length_octets-short m few)) in
    let extension : IsExtension content x = short-extension content flag (0x04 ∷ m ∷ value) value critical (omega arith) refl refl refl refl small is refl fits encoded in
    let long : length content ≡ n = omega (arith, length-append flag (0x04 ∷ m ∷ value), count, size) in
    (x, few-within 0x30 n IsExtension content x (omega arith) (λ e. omega arith) long short extension, subst (λ (k : Option Known). IsValidValue k value) (sym is_known) sound, refl)

true-encoded : 0x01 ∷ 1 ∷ 0xFF ∷ [] ≡ encode 0x01 (boolean_content true)
true-encoded = rw (length_octets-short 1 (omega arith)) refl

-- the first octets of a list
taken : (item more octets : List ℕ) (n arc : ℕ) → octets ≡ item ++ more → take n (item ++ more) ≡ item → IsValidUnder arc item → IsValidUnder arc (take n octets)
taken item more octets n arc whole front is = subst (IsValidUnder arc) (sym (ap (take n) whole ∙ front)) is

-- basic constraints that say that cA is TRUE, but for their last octet
abbrev authority_front : List ℕ
authority_front = 0x30 ∷ 0x0F ∷ 0x06 ∷ 3 ∷ 0x55 ∷ 0x1D ∷ 0x13 ∷ 0x01 ∷ 1 ∷ 0xFF ∷ 0x04 ∷ 5 ∷ 0x30 ∷ 3 ∷ 0x01 ∷ 1 ∷ []

pub authority-item : (octets : List ℕ) → lie_between authority_front authority_front octets ≡ true → 17 ≤ length octets → get_or octets 16 0 ≡ 0xFF → IsValidUnder 0x13 (take 17 octets)
unfolding certificate_extension
authority-item octets h enough last =
    let begins : octets ≡ authority_front ++ drop 16 octets = front 16 authority_front authority_front octets h refl (omega arith) in
    let behind : drop 16 octets ≡ 0xFF ∷ drop 17 octets = drop-cons octets 16 0 (omega arith) ∙ ap (λ (o : ℕ). o ∷ drop 17 octets) last in
    let value : List ℕ = 0x30 ∷ 3 ∷ 0x01 ∷ 1 ∷ 0xFF ∷ [] in
    let content : List ℕ = 0x01 ∷ 1 ∷ 0xFF ∷ [] in
    let encoded : value ≡ encode 0x30 content = rw (length_octets-short 3 (omega arith)) refl in
    let sound = sound-value BasicConstraints value content
    (basicConstraints (record { ca = true; path_len_constraint = None }))
    (record { octet = omega arith; low = λ e. omega arith; short = omega arith }) encoded
    (_, refl, of-authority content refl refl refl refl) refl in
    taken (authority_front ++ 0xFF ∷ []) (drop 17 octets) octets 17 0x13 (begins ∙ ap (λ (o : List ℕ). authority_front ++ o) behind) refl
    (sound-item BasicConstraints 0x13 0x0F 5 (0x01 ∷ 1 ∷ 0xFF ∷ []) value true (omega arith) refl true-encoded refl (omega arith) refl (omega arith) sound)

-- a key usage in one octet of which a bit is not used
abbrev usage_front : ℕ → List ℕ
usage_front last = 0x30 ∷ 0x0E ∷ 0x06 ∷ 3 ∷ 0x55 ∷ 0x1D ∷ 0x0F ∷ 0x01 ∷ 1 ∷ 0xFF ∷ 0x04 ∷ 4 ∷ 0x03 ∷ 2 ∷ 1 ∷ last ∷ []

pub usage-item : (octets : List ℕ) → lie_between (usage_front 0) (usage_front 0xFF) octets ≡ true → 16 ≤ length octets → get_or octets 15 0 % 4 ≡ 2 → IsValidUnder 0x0F (take 16 octets)
unfolding certificate_extension
usage-item octets h enough bits =
    let last : ℕ = get_or octets 15 0 in
    let begins : octets ≡ take 15 (usage_front 0) ++ drop 15 octets = front 15 (usage_front 0) (usage_front 0xFF) octets h refl (omega arith) in
    let behind : drop 15 octets ≡ last ∷ drop 16 octets = drop-cons octets 15 0 (omega arith) in
    let content : List ℕ = 1 ∷ last ∷ [] in
    let value : List ℕ = 0x03 ∷ 2 ∷ content in
    let encoded : value ≡ encode 0x03 content = rw (length_octets-short 2 (omega arith)) refl in
    let usage = crl-sign-last content refl refl bits in
    let sound = sound-value KeyUsage value content (keyUsage usage.0) (record { octet = omega arith; low = λ e. omega arith; short = omega arith }) encoded (usage.0, refl, usage.1) refl in
    taken (usage_front last) (drop 16 octets) octets 16 0x0F (begins ∙ ap (λ (o : List ℕ). take 15 (usage_front 0) ++ o) behind) refl
    (sound-item KeyUsage 0x0F 0x0E 4 (0x01 ∷ 1 ∷ 0xFF ∷ []) value true (omega arith) refl true-encoded refl (omega arith) refl (omega arith) sound)

-- the identifier of the subject's key in twenty octets
abbrev subject_key_front : List ℕ → List ℕ
subject_key_front key = 0x30 ∷ 0x1D ∷ 0x06 ∷ 3 ∷ 0x55 ∷ 0x1D ∷ 0x0E ∷ 0x04 ∷ 0x16 ∷ 0x04 ∷ 0x14 ∷ key

pub subject-key-item : (octets : List ℕ)
    → lie_between (subject_key_front (0 ∷ 0 ∷ 0 ∷ 0 ∷ 0 ∷ []))
    (subject_key_front (255 ∷ 255 ∷ 255 ∷ 255 ∷ 255 ∷ [])) octets ≡ true → 31 ≤ length octets
    → IsValidUnder 0x0E (take 31 octets)
unfolding certificate_extension
subject-key-item octets h enough =
    let key : List ℕ = take 20 (drop 11 octets) in
    let begins : octets ≡ subject_key_front (drop 11 octets) =
    front 11 (subject_key_front (0 ∷ 0 ∷ 0 ∷ 0 ∷ 0 ∷ []))
    (subject_key_front (255 ∷ 255 ∷ 255 ∷ 255 ∷ 255 ∷ [])) octets h refl (omega arith) in
    let count : length key ≡ 20 = length-take-le 20 (drop 11 octets) (omega (arith, length-drop 11 octets)) in
    let fits : Fits 0x04 key = record { octet = omega arith; low = λ e. omega arith; short = omega (arith, count) } in
    let encoded : 0x04 ∷ 0x14 ∷ key ≡ encode 0x04 key = ap (λ (o : List ℕ). 0x04 ∷ (o ++ key)) (sym (ap length_octets count ∙ length_octets-short 20 (omega arith))) in
    let sound = sound-value SubjectKeyIdentifier (0x04 ∷ 0x14 ∷ key) key (subjectKeyIdentifier key) fits encoded (key, refl, refl) refl in
    subst (IsValidUnder 0x0E) (sym (ap (take 31) begins))
    (sound-item SubjectKeyIdentifier 0x0E 0x1D 0x16 [] (0x04 ∷ 0x14 ∷ key) false (omega arith) refl refl (omega (arith, count)) (omega arith) refl (omega arith) sound)

-- the identifier of the authority's key in twenty octets, alone
abbrev authority_key_front : List ℕ → List ℕ
authority_key_front key = 0x30 ∷ 0x1F ∷ 0x06 ∷ 3 ∷ 0x55 ∷ 0x1D ∷ 0x23 ∷ 0x04 ∷ 0x18 ∷ 0x30 ∷ 0x16 ∷ 0x80 ∷ 0x14 ∷ key

pub authority-key-item : (octets : List ℕ)
    → lie_between (authority_key_front (0 ∷ 0 ∷ 0 ∷ []))
    (authority_key_front (255 ∷ 255 ∷ 255 ∷ [])) octets ≡ true → 33 ≤ length octets
    → IsValidUnder 0x23 (take 33 octets)
unfolding certificate_extension
authority-key-item octets h enough =
    let key : List ℕ = take 20 (drop 13 octets) in
    let begins : octets ≡ authority_key_front (drop 13 octets) = front 13 (authority_key_front (0 ∷ 0 ∷ 0 ∷ [])) (authority_key_front (255 ∷ 255 ∷ 255 ∷ [])) octets h refl (omega arith) in
    let count : length key ≡ 20 = length-take-le 20 (drop 13 octets) (omega (arith, length-drop 13 octets)) in
    let content : List ℕ = 0x80 ∷ 0x14 ∷ key in
    let key_fits : Fits 0x80 key = record { octet = omega arith; low = λ e. omega arith; short = omega (arith, count) } in
    let key_encoded : content ≡ encode 0x80 key = ap (λ (o : List ℕ). 0x80 ∷ (o ++ key)) (sym (ap length_octets count ∙ length_octets-short 20 (omega arith))) in
    let long : length content ≡ 22 = omega (arith, count) in
    let fits : Fits 0x30 content = record { octet = omega arith; low = λ e. omega arith; short = omega (arith, count) } in
    let encoded : 0x30 ∷ 0x16 ∷ content ≡ encode 0x30 content = ap (λ (o : List ℕ). 0x30 ∷ (o ++ content)) (sym (ap length_octets long ∙ length_octets-short 22 (omega arith))) in
    let is = key-alone content key key_fits key_encoded in
    let sound = sound-value AuthorityKeyIdentifier (0x30 ∷ 0x16 ∷ content) content (authorityKeyIdentifier _) fits encoded (_, refl, is) refl in
    subst (IsValidUnder 0x23) (sym (ap (take 33) begins))
    (sound-item AuthorityKeyIdentifier 0x23 0x1F 0x18 [] (0x30 ∷ 0x16 ∷ content) false (omega arith) refl refl (omega (arith, count)) (omega arith) refl (omega arith) sound)
