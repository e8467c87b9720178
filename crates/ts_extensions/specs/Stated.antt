-- What a certificate, a CRL or an entry says by an extension (RFC 5280 4.2, 5.2, 5.3): the value
-- that
-- its octets encode.
use Rattle.std.specs.Prelude.{◌≡◌, ◌↔◌, ℕ, List, Option, Some, None}
use Rattle.ts_extensions.specs.Extension.{Extension}

-- there is an answer, and it is a value exactly where the octets encode that value
abbrev pub IsValueOf : {A : Type 0} → (List ℕ → A → Type 0) → List ℕ → Option A → Type 0
IsValueOf {A} Encodes octets answer =
    ((v : A) × (answer ≡ Some v)) × ((v : A) → (answer ≡ Some v) ↔ Encodes octets v)

-- nothing where the extension does not stand, else the value of its octets
abbrev pub IsStated : {A : Type 0} → (List ℕ → A → Type 0) → Option Extension → Option A → Type 0
IsStated Encodes None answer = answer ≡ None
IsStated Encodes (Some x) answer = IsValueOf Encodes x.extnValue answer
