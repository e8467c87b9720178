-- The parts of a certificate, one after another: where each begins.
use Rattle.std.proofs.Common.{◌≡◌, ℕ, suc, ◌+◌, ◌≤◌, false, List, ◌++◌, length, drop, Option, Some, None, refl, sym, ap, ◌∙◌, append_assoc, arith}
use Rattle.std.proofs.lemmas.List.{drop-drop, drop_at}
use Rattle.ts_der.specs.Element.{Fits, encode, length_octets}
use Rattle.ts_der.specs.Reading.{begins_with}
use Rattle.ts_shape.specs.Fields.{Within, IfAny}
use Rattle.ts_cert.specs.declared.version.Version.{Version}
use Rattle.ts_cert.specs.declared.version.Version.TheVariants.{V1, V2, V3}
use Rattle.ts_cert.specs.Layout.{Lies}
use Rattle.ts_cert.specs.Encoding.{version_octets}
use Rattle.ts_cert.proofs.Periods.{fits_version}

-- what follows each element, whatever it is
abbrev pub Passes : List ℕ → ℕ → ℕ → Type 0
Passes octets at to = (tag : ℕ) (content rest : List ℕ) → Fits tag content → drop at octets ≡ encode tag content ++ rest → drop to octets ≡ rest

-- what follows an element of this tag
abbrev pub PassesIf : List ℕ → ℕ → ℕ → ℕ → Type 0
PassesIf octets tag at to = (content rest : List ℕ) → Fits tag content → drop at octets ≡ encode tag content ++ rest → drop to octets ≡ rest

-- a part that begins here, before others
pub lies : {octets : List ℕ} {at to : ℕ} (part more rest : List ℕ) → drop at octets ≡ (part ++ more) ++ rest → drop to octets ≡ more ++ rest → at ≤ length octets → Lies octets at part to
lies {octets} {at} {to} part more rest here next begins = record { here = here ∙ (append_assoc part more rest ∙ ap (λ (r : List ℕ). part ++ r) (sym next)); begins = begins }

-- after an element the others begin
pub passed : {A : Type 0} {tag : ℕ} {Encodes : List ℕ → A → Type 0} {x : A} {part : List ℕ} (octets : List ℕ) (at to : ℕ) → Within tag Encodes part x → (more rest : List ℕ)
    → drop at octets ≡ (part ++ more) ++ rest → Passes octets at to → drop to octets ≡ more ++ rest
passed {A} {tag} {Encodes} {x} {part} octets at to is more rest here passes =
    passes tag is.content (more ++ rest) is.fits (here ∙ (append_assoc part more rest ∙ ap (λ (p : List ℕ). p ++ (more ++ rest)) is.encoded))

-- the same for one that may be absent
pub if-passed : {A : Type 0} (tag : ℕ) (Encodes : List ℕ → A → Type 0) (x : Option A) (octets : List ℕ) (at to : ℕ) (part more rest : List ℕ) → IfAny tag Encodes part x
    → drop at octets ≡ (part ++ more) ++ rest → begins_with tag (more ++ rest) ≡ false
    → PassesIf octets tag at to → (begins_with tag (drop at octets) ≡ false → to ≡ at)
    → drop to octets ≡ more ++ rest
if-passed tag Encodes None octets at to part more rest is here other present absent =
    let whole : drop at octets ≡ more ++ rest = here ∙ ap (λ (p : List ℕ). (p ++ more) ++ rest) is in
    ap (λ (n : ℕ). drop n octets) (absent (ap (λ (o : List ℕ). begins_with tag o) whole ∙ other)) ∙ whole
if-passed tag Encodes (Some x) octets at to part more rest is here other present absent =
    present is.content (more ++ rest) is.fits (here ∙ (append_assoc part more rest ∙ ap (λ (p : List ℕ). p ++ (more ++ rest)) is.encoded))

-- after the version, which is absent where it is 1
pub version-passed : (v : Version) (octets : List ℕ) (at to : ℕ) (more rest : List ℕ) → drop at octets ≡ (version_octets v ++ more) ++ rest → begins_with 0xA0 (more ++ rest) ≡ false
    → PassesIf octets 0xA0 at to → (begins_with 0xA0 (drop at octets) ≡ false → to ≡ at) → drop to octets ≡ more ++ rest
version-passed V1 octets at to more rest here other present absent = ap (λ (n : ℕ). drop n octets) (absent (ap (λ (o : List ℕ). begins_with 0xA0 o) here ∙ other)) ∙ here
version-passed V2 octets at to more rest here other present absent = present _ (more ++ rest) (fits_version 1) (here ∙ append_assoc (version_octets V2) more rest)
version-passed V3 octets at to more rest here other present absent = present _ (more ++ rest) (fits_version 2) (here ∙ append_assoc (version_octets V3) more rest)

-- ---- an element at an offset

-- its content
pub inside-element : (octets content rest : List ℕ) (at tag : ℕ) → drop at octets ≡ encode tag content ++ rest → drop (at + 1 + length (length_octets (length content))) octets ≡ content ++ rest
inside-element octets content rest at tag here =
    let digits : List ℕ = length_octets (length content) in
    let size : ℕ = length digits in
    ap (λ (n : ℕ). drop n octets) (omega arith)
    ∙ (sym (drop-drop (suc size) at octets)
    ∙ (ap (λ (o : List ℕ). drop (suc size) o) here
    ∙ (ap (λ (o : List ℕ). drop size o) (append_assoc digits content rest)
    ∙ drop_at digits (content ++ rest) size refl)))

-- what is behind it
pub behind-element : (octets content rest : List ℕ) (at tag : ℕ) → drop at octets ≡ encode tag content ++ rest → drop (at + length (encode tag content)) octets ≡ rest
behind-element octets content rest at tag here =
    let size : ℕ = length (encode tag content) in
    sym (drop-drop size at octets) ∙ (ap (λ (o : List ℕ). drop size o) here ∙ drop_at (encode tag content) rest size refl)
