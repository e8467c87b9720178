-- What contracts see of a reason: the condition that it says has failed, and what it says beside
-- that.
use Rattle.std.specs.Prelude.{ℕ, List, Option, Some, None}
use Rattle.ts_der.specs.declared.oid.OidRef.{OidRef}
use Rattle.ts_reason.specs.declared.reason.Reason.{Reason}
use Rattle.ts_reason.specs.declared.reason.Reason.TheVariants.{AnchorPurpose, Signature, TooEarly}
use Rattle.ts_reason.specs.declared.reason.Reason.TheVariants.{Expired, Revoked, Undetermined}
use Rattle.ts_reason.specs.declared.reason.Reason.TheVariants.{IssuerName, UnsupportedConstraint}
use Rattle.ts_reason.specs.declared.reason.Reason.TheVariants.{NotPermitted, Excluded}
use Rattle.ts_reason.specs.declared.reason.Reason.TheVariants.{PolicyRequired, MapsAny, NotCa}
use Rattle.ts_reason.specs.declared.reason.Reason.TheVariants.{PathLength, KeyUsage}
use Rattle.ts_reason.specs.declared.reason.Reason.TheVariants.{CriticalExtension, FinalPolicy}
use Rattle.ts_reason.specs.declared.reason.Reason.TheVariants.{Purpose}
use Rattle.ts_reason.specs.Conditions.{Condition, anchor_purpose, signature, too_early, expired}
use Rattle.ts_reason.specs.Conditions.{revoked, undetermined, issuer_name, unsupported_constraint}
use Rattle.ts_reason.specs.Conditions.{not_permitted, excluded, policy_required, maps_any, not_ca}
use Rattle.ts_reason.specs.Conditions.{path_length, key_usage, critical_extension, final_policy}
use Rattle.ts_reason.specs.Conditions.{purpose}

-- the condition that a reason says has failed
abbrev pub condition_of : {O : Type 0} → Reason O → Condition
condition_of AnchorPurpose = anchor_purpose
condition_of Signature = signature
condition_of TooEarly = too_early
condition_of Expired = expired
condition_of (Revoked code) = revoked
condition_of Undetermined = undetermined
condition_of IssuerName = issuer_name
condition_of UnsupportedConstraint = unsupported_constraint
condition_of NotPermitted = not_permitted
condition_of Excluded = excluded
condition_of PolicyRequired = policy_required
condition_of MapsAny = maps_any
condition_of NotCa = not_ca
condition_of PathLength = path_length
condition_of KeyUsage = key_usage
condition_of (CriticalExtension oid) = critical_extension
condition_of FinalPolicy = final_policy
condition_of Purpose = purpose

-- the same reason, with its object identifier in another form
abbrev pub with_oid : {A B : Type 0} → (A → B) → Reason A → Reason B
with_oid f AnchorPurpose = AnchorPurpose
with_oid f Signature = Signature
with_oid f TooEarly = TooEarly
with_oid f Expired = Expired
with_oid f (Revoked code) = Revoked code
with_oid f Undetermined = Undetermined
with_oid f IssuerName = IssuerName
with_oid f UnsupportedConstraint = UnsupportedConstraint
with_oid f NotPermitted = NotPermitted
with_oid f Excluded = Excluded
with_oid f PolicyRequired = PolicyRequired
with_oid f MapsAny = MapsAny
with_oid f NotCa = NotCa
with_oid f PathLength = PathLength
with_oid f KeyUsage = KeyUsage
with_oid f (CriticalExtension oid) = CriticalExtension (f oid)
with_oid f FinalPolicy = FinalPolicy
with_oid f Purpose = Purpose

-- with the content octets of the object identifier
abbrev pub reason_in : Reason OidRef → Reason (List ℕ)
reason_in reason = with_oid (λ oid. oid.content.now) reason

-- the code of a revocation, and the content octets of the object identifier of an extension, where
-- a reason says one
abbrev pub code_of : Reason (List ℕ) → Option ℕ
code_of (Revoked code) = Some code
code_of other = None

abbrev pub oid_of : Reason (List ℕ) → Option (List ℕ)
oid_of (CriticalExtension oid) = Some oid
oid_of other = None
