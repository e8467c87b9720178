-- The section of the standard that a reason is of.
use Rattle.std.specs.Prelude.{ℕ, List, codes}
use Rattle.ts_reason.specs.declared.reason.Reason.{Reason}
use Rattle.ts_reason.specs.declared.reason.Reason.TheVariants.{AnchorPurpose, Signature, TooEarly}
use Rattle.ts_reason.specs.declared.reason.Reason.TheVariants.{Expired, Revoked, Undetermined}
use Rattle.ts_reason.specs.declared.reason.Reason.TheVariants.{IssuerName, UnsupportedConstraint}
use Rattle.ts_reason.specs.declared.reason.Reason.TheVariants.{NotPermitted, Excluded}
use Rattle.ts_reason.specs.declared.reason.Reason.TheVariants.{PolicyRequired, MapsAny, NotCa}
use Rattle.ts_reason.specs.declared.reason.Reason.TheVariants.{PathLength, KeyUsage}
use Rattle.ts_reason.specs.declared.reason.Reason.TheVariants.{CriticalExtension, FinalPolicy}
use Rattle.ts_reason.specs.declared.reason.Reason.TheVariants.{Purpose}

-- the RFC and its section that has the condition (RFC 5280 6.1)
abbrev pub section : {O : Type 0} → Reason O → List ℕ
section AnchorPurpose = codes "5280 6.1.1 (d)"
section Signature = codes "5280 6.1.3 (a)(1)"
section TooEarly = codes "5280 6.1.3 (a)(2)"
section Expired = codes "5280 6.1.3 (a)(2)"
section (Revoked code) = codes "5280 6.1.3 (a)(3)"
section Undetermined = codes "5280 6.1.3 (a)(3)"
section IssuerName = codes "5280 6.1.3 (a)(4)"
section UnsupportedConstraint = codes "5280 4.2.1.10"
section NotPermitted = codes "5280 6.1.3 (b)"
section Excluded = codes "5280 6.1.3 (c)"
section PolicyRequired = codes "5280 6.1.3 (f)"
section MapsAny = codes "5280 6.1.4 (a)"
section NotCa = codes "5280 6.1.4 (k)"
section PathLength = codes "5280 6.1.4 (l)"
section KeyUsage = codes "5280 6.1.4 (n)"
section (CriticalExtension oid) = codes "5280 6.1.4 (o), 6.1.5 (f)"
section FinalPolicy = codes "5280 6.1.5 (g)"
section Purpose = codes "5280 4.2.1.12"
