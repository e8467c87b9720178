-- A reason is its condition with its code and its object identifier; and it is read in one way.
use Rattle.std.proofs.Common.{◌≡◌, ℕ, ◌==◌, List, [], ◌++◌, Option, Some, refl, sym, ap, ◌∙◌, if◌then◌else◌}
use Rattle.std.specs.Prelude.{unwrap_or}
use Rattle.std.specs.List.{AllByRecursion}
use Rattle.ts_codec.specs.Reading.{◌>>=◌, bare, lookup}
use Rattle.ts_codec.proofs.Laws.{Part}
use Rattle.ts_codec.proofs.Numbers.{any_octet}
use Rattle.ts_codec.proofs.Rows.{parts_again, Case, case, bare_case, ◌also◌, kind_part}
use Rattle.ts_codec.proofs.Values.{oid_part}
use Rattle.ts_der.specs.declared.oid.OidRef.{OidRef}
use Rattle.ts_reason.specs.declared.reason.Reason.{Reason}
use Rattle.ts_reason.specs.declared.reason.Reason.TheVariants.{AnchorPurpose, Signature, TooEarly}
use Rattle.ts_reason.specs.declared.reason.Reason.TheVariants.{Expired, Revoked, Undetermined}
use Rattle.ts_reason.specs.declared.reason.Reason.TheVariants.{IssuerName, UnsupportedConstraint}
use Rattle.ts_reason.specs.declared.reason.Reason.TheVariants.{NotPermitted, Excluded}
use Rattle.ts_reason.specs.declared.reason.Reason.TheVariants.{PolicyRequired, MapsAny, NotCa}
use Rattle.ts_reason.specs.declared.reason.Reason.TheVariants.{PathLength, KeyUsage}
use Rattle.ts_reason.specs.declared.reason.Reason.TheVariants.{CriticalExtension, FinalPolicy}
use Rattle.ts_reason.specs.declared.reason.Reason.TheVariants.{Purpose}
use Rattle.ts_reason.specs.Conditions.{number_of}
use Rattle.ts_reason.specs.View.{condition_of, code_of, oid_of, reason_in}
use Rattle.ts_reason.specs.Octets.{Fits, kind_of, detail, encoding, reasons, reason_at}

-- ---- what a reason says

abbrev reason_of : ℕ → Option ℕ → Option (List ℕ) → Reason (List ℕ)
reason_of n code oid =
    if n == 5 then Revoked (unwrap_or code 0) else if n == 16 then CriticalExtension (unwrap_or oid [])
    else if n == 1 then AnchorPurpose else if n == 2 then Signature else if n == 3 then TooEarly else if n == 4 then Expired
    else if n == 6 then Undetermined else if n == 7 then IssuerName else if n == 8 then UnsupportedConstraint else if n == 9 then NotPermitted
    else if n == 10 then Excluded else if n == 11 then PolicyRequired else if n == 12 then MapsAny else if n == 13 then NotCa
    else if n == 14 then PathLength else if n == 15 then KeyUsage else if n == 17 then FinalPolicy else Purpose

is_at : (r : Reason (List ℕ)) → reason_of (kind_of r) (code_of r) (oid_of r) ≡ r
is_at AnchorPurpose = refl
is_at Signature = refl
is_at TooEarly = refl
is_at Expired = refl
is_at (Revoked code) = refl
is_at Undetermined = refl
is_at IssuerName = refl
is_at UnsupportedConstraint = refl
is_at NotPermitted = refl
is_at Excluded = refl
is_at PolicyRequired = refl
is_at MapsAny = refl
is_at NotCa = refl
is_at PathLength = refl
is_at KeyUsage = refl
is_at (CriticalExtension oid) = refl
is_at FinalPolicy = refl
is_at Purpose = refl

pub one_reason : (a b : Reason (List ℕ)) → condition_of a ≡ condition_of b → code_of a ≡ code_of b → oid_of a ≡ oid_of b → a ≡ b
one_reason a b condition code oid =
    let n = ap number_of condition in
    sym (is_at a) ∙ (λ i. reason_of (n i) (code i) (oid i)) ∙ is_at b

-- another form of the object identifier leaves the condition
pub condition_in : (r : Reason OidRef) → condition_of (reason_in r) ≡ condition_of r
condition_in AnchorPurpose = refl
condition_in Signature = refl
condition_in TooEarly = refl
condition_in Expired = refl
condition_in (Revoked code) = refl
condition_in Undetermined = refl
condition_in IssuerName = refl
condition_in UnsupportedConstraint = refl
condition_in NotPermitted = refl
condition_in Excluded = refl
condition_in PolicyRequired = refl
condition_in MapsAny = refl
condition_in NotCa = refl
condition_in PathLength = refl
condition_in KeyUsage = refl
condition_in (CriticalExtension oid) = refl
condition_in FinalPolicy = refl
condition_in Purpose = refl

-- ---- its octets

reason_again : (r : Reason (List ℕ)) (rest : List ℕ) → Fits r → (lookup (kind_of r) reasons >>= λ fields. fields (detail r ++ rest)) ≡ Some (r, rest)
reason_again AnchorPurpose rest fit = refl
reason_again Signature rest fit = refl
reason_again TooEarly rest fit = refl
reason_again Expired rest fit = refl
reason_again (Revoked code) rest fit = refl
reason_again Undetermined rest fit = refl
reason_again IssuerName rest fit = refl
reason_again UnsupportedConstraint rest fit = refl
reason_again NotPermitted rest fit = refl
reason_again Excluded rest fit = refl
reason_again PolicyRequired rest fit = refl
reason_again MapsAny rest fit = refl
reason_again NotCa rest fit = refl
reason_again PathLength rest fit = refl
reason_again KeyUsage rest fit = refl
reason_again (CriticalExtension oid) rest fit = parts_again oid_part CriticalExtension oid rest fit
reason_again FinalPolicy rest fit = refl
reason_again Purpose rest fit = refl

plain : (r : Reason (List ℕ)) (n : ℕ) → detail r ≡ [] → Fits r → kind_of r ≡ n → Case kind_of detail Fits n (bare r)
plain r n none fit is = bare_case r n none fit is

reason_cases : AllByRecursion (λ row. Case kind_of detail Fits row.0 row.1) reasons
reason_cases = plain AnchorPurpose 1 refl tt refl
    also plain Signature 2 refl tt refl
    also plain TooEarly 3 refl tt refl
    also plain Expired 4 refl tt refl
    also case any_octet Revoked 5 (λ x fit. (tt, refl, refl))
    also plain Undetermined 6 refl tt refl
    also plain IssuerName 7 refl tt refl
    also plain UnsupportedConstraint 8 refl tt refl
    also plain NotPermitted 9 refl tt refl
    also plain Excluded 10 refl tt refl
    also plain PolicyRequired 11 refl tt refl
    also plain MapsAny 12 refl tt refl
    also plain NotCa 13 refl tt refl
    also plain PathLength 14 refl tt refl
    also plain KeyUsage 15 refl tt refl
    also case oid_part CriticalExtension 16 (λ x fit. (fit, refl, refl))
    also plain FinalPolicy 17 refl tt refl
    also plain Purpose 18 refl tt refl
    also tt

pub reason_part : Part encoding Fits reason_at
unfolding reason_at
reason_part = kind_part (record { cases = reason_cases; again = reason_again })
