-- The octets of a reason, and how they are read.
use Rattle.std.specs.Prelude.{◌≡◌, ℕ, true, List, [], ◌∷◌}
use Rattle.ts_der.specs.ObjectIdentifier.{is_oid}
use Rattle.ts_codec.specs.Parts.{blob8}
use Rattle.ts_codec.specs.Reading.{Reader, ◌into◌, bare, octet_at, oid_at, by_kind}
use Rattle.ts_reason.specs.declared.reason.Reason.{Reason}
use Rattle.ts_reason.specs.declared.reason.Reason.TheVariants.{AnchorPurpose, Signature, TooEarly}
use Rattle.ts_reason.specs.declared.reason.Reason.TheVariants.{Expired, Revoked, Undetermined}
use Rattle.ts_reason.specs.declared.reason.Reason.TheVariants.{IssuerName, UnsupportedConstraint}
use Rattle.ts_reason.specs.declared.reason.Reason.TheVariants.{NotPermitted, Excluded}
use Rattle.ts_reason.specs.declared.reason.Reason.TheVariants.{PolicyRequired, MapsAny, NotCa}
use Rattle.ts_reason.specs.declared.reason.Reason.TheVariants.{PathLength, KeyUsage}
use Rattle.ts_reason.specs.declared.reason.Reason.TheVariants.{CriticalExtension, FinalPolicy}
use Rattle.ts_reason.specs.declared.reason.Reason.TheVariants.{Purpose}
use Rattle.ts_reason.specs.Conditions.{number_of}
use Rattle.ts_reason.specs.View.{condition_of}

-- the number of the condition
abbrev pub kind_of : Reason (List ℕ) → ℕ
kind_of reason = number_of (condition_of reason)

-- the code of a revocation, and the object identifier of an extension
abbrev pub detail : Reason (List ℕ) → List ℕ
detail (Revoked code) = code ∷ []
detail (CriticalExtension oid) = blob8 oid
detail other = []

-- the number, and what the reason says beside it
abbrev pub encoding : Reason (List ℕ) → List ℕ
encoding reason = kind_of reason ∷ detail reason

-- which have an encoding
abbrev pub Fits : Reason (List ℕ) → Type 0
Fits (CriticalExtension oid) = is_oid oid ≡ true
Fits other = Unit {0}

-- what each reason says beside its number
abbrev pub reasons : List (ℕ × Reader (Reason (List ℕ)))
reasons = (1, bare AnchorPurpose) ∷ (2, bare Signature) ∷ (3, bare TooEarly) ∷ (4, bare Expired)
    ∷ (5, octet_at into Revoked) ∷ (6, bare Undetermined) ∷ (7, bare IssuerName)
    ∷ (8, bare UnsupportedConstraint) ∷ (9, bare NotPermitted) ∷ (10, bare Excluded)
    ∷ (11, bare PolicyRequired) ∷ (12, bare MapsAny) ∷ (13, bare NotCa) ∷ (14, bare PathLength)
    ∷ (15, bare KeyUsage) ∷ (16, oid_at into CriticalExtension) ∷ (17, bare FinalPolicy)
    ∷ (18, bare Purpose) ∷ []

unfoldable pub reason_at : Reader (Reason (List ℕ))
reason_at = by_kind reasons
