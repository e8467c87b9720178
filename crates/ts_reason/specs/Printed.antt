-- What is printed of the reason why a chain is not good.
use Rattle.std.specs.Prelude.{ℕ, List, ◌++◌, codes}
use Rattle.std.specs.Fmt.{decimal}
use Rattle.ts_der.specs.ObjectIdentifier.{arcs}
use Rattle.ts_der.specs.Dotted.{dotted_text}
use Rattle.ts_reason.specs.declared.reason.Reason.{Reason}
use Rattle.ts_reason.specs.declared.reason.Reason.TheVariants.{AnchorPurpose, Signature, TooEarly}
use Rattle.ts_reason.specs.declared.reason.Reason.TheVariants.{Expired, Revoked, Undetermined}
use Rattle.ts_reason.specs.declared.reason.Reason.TheVariants.{IssuerName, UnsupportedConstraint}
use Rattle.ts_reason.specs.declared.reason.Reason.TheVariants.{NotPermitted, Excluded}
use Rattle.ts_reason.specs.declared.reason.Reason.TheVariants.{PolicyRequired, MapsAny, NotCa}
use Rattle.ts_reason.specs.declared.reason.Reason.TheVariants.{PathLength, KeyUsage}
use Rattle.ts_reason.specs.declared.reason.Reason.TheVariants.{CriticalExtension, FinalPolicy}
use Rattle.ts_reason.specs.declared.reason.Reason.TheVariants.{Purpose}

-- the name of the reason, and after a space the number of a revocation's reason or the object
-- identifier of an extension
abbrev pub reason_text : Reason (List ℕ) → List ℕ
reason_text AnchorPurpose = codes "AnchorPurpose"
reason_text Signature = codes "Signature"
reason_text TooEarly = codes "TooEarly"
reason_text Expired = codes "Expired"
reason_text (Revoked code) = codes "Revoked " ++ decimal code
reason_text Undetermined = codes "Undetermined"
reason_text IssuerName = codes "IssuerName"
reason_text UnsupportedConstraint = codes "UnsupportedConstraint"
reason_text NotPermitted = codes "NotPermitted"
reason_text Excluded = codes "Excluded"
reason_text PolicyRequired = codes "PolicyRequired"
reason_text MapsAny = codes "MapsAny"
reason_text NotCa = codes "NotCa"
reason_text PathLength = codes "PathLength"
reason_text KeyUsage = codes "KeyUsage"
reason_text (CriticalExtension oid) = codes "CriticalExtension " ++ dotted_text (arcs oid)
reason_text FinalPolicy = codes "FinalPolicy"
reason_text Purpose = codes "Purpose"
