-- What texts write: positions, object identifiers, certificates.
use Rattle.std.specs.Prelude.{◌≡◌, ◌⊎◌, ℕ, true, false, List, ◌∷◌, [], Ok}
use Rattle.base64.specs.Engines.{standard}
use Rattle.base64.specs.GeneralPurpose.{decode_of}
use Rattle.ts_der.specs.ObjectIdentifier.{arcs, is_oid}
use Rattle.ts_der.specs.Dotted.{dotted_text}
use Rattle.ts_literal.specs.Literals.{IsNumberIn}
use Rattle.ts_pem.specs.Files.{has_begin, values_of}
use Rattle.ts_pem.specs.declared.block.Label.TheVariants.{Certificate}

-- a position: 0 to 1,000,000, in decimal
abbrev pub IsPosition : List ℕ → ℕ → Type 0
IsPosition text k = IsNumberIn 0 1000000 text k

-- the contents octets of the object identifier of a dotted form
pub record IsDotted (text content : List ℕ) : Type 0 where
  pub written : text ≡ dotted_text (arcs content)
  pub valid : is_oid content ≡ true

-- the certificates of a text of PEM; any other octets are one, in DER
abbrev pub AreCertificates : List ℕ → List (List ℕ) → Type 0
AreCertificates octets certificates = values_of Certificate octets ≡ Ok certificates

-- the same, but what is no text of PEM is DER in base64
abbrev pub AreWritten : List ℕ → List (List ℕ) → Type 0
AreWritten text certificates =
    ((has_begin text ≡ true) × AreCertificates text certificates)
    ⊎ ((has_begin text ≡ false) × (octets : List ℕ) × (decode_of standard text ≡ Ok octets)
    × (certificates ≡ octets ∷ []))
