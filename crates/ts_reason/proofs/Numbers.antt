-- A condition has one number, from 1 to 18.
use Rattle.std.proofs.Common.{◌≡◌, ℕ, ◌<◌, cond, eqb, refl, sym, ap, ◌∙◌, arith}
use Rattle.ts_reason.specs.Conditions.{Condition, number_of, anchor_purpose, signature, too_early}
use Rattle.ts_reason.specs.Conditions.{expired, revoked, undetermined, issuer_name}
use Rattle.ts_reason.specs.Conditions.{unsupported_constraint, not_permitted, excluded}
use Rattle.ts_reason.specs.Conditions.{policy_required, maps_any, not_ca, path_length, key_usage}
use Rattle.ts_reason.specs.Conditions.{critical_extension, final_policy, purpose}

-- the condition of a number
condition_numbered : ℕ → Condition
condition_numbered n =
    cond (eqb n 1) anchor_purpose
    (cond (eqb n 2) signature
    (cond (eqb n 3) too_early
    (cond (eqb n 4) expired
    (cond (eqb n 5) revoked
    (cond (eqb n 6) undetermined
    (cond (eqb n 7) issuer_name
    (cond (eqb n 8) unsupported_constraint
    (cond (eqb n 9) not_permitted
    (cond (eqb n 10) excluded
    (cond (eqb n 11) policy_required
    (cond (eqb n 12) maps_any
    (cond (eqb n 13) not_ca
    (cond (eqb n 14) path_length
    (cond (eqb n 15) key_usage
    (cond (eqb n 16) critical_extension
    (cond (eqb n 17) final_policy
    purpose))))))))))))))))

numbered : (k : Condition) → condition_numbered (number_of k) ≡ k
unfolding condition_numbered
numbered anchor_purpose = refl
numbered signature = refl
numbered too_early = refl
numbered expired = refl
numbered revoked = refl
numbered undetermined = refl
numbered issuer_name = refl
numbered unsupported_constraint = refl
numbered not_permitted = refl
numbered excluded = refl
numbered policy_required = refl
numbered maps_any = refl
numbered not_ca = refl
numbered path_length = refl
numbered key_usage = refl
numbered critical_extension = refl
numbered final_policy = refl
numbered purpose = refl

pub one_number : (k m : Condition) → number_of k ≡ number_of m → k ≡ m
one_number k m e = sym (numbered k) ∙ (ap condition_numbered e ∙ numbered m)

pub positive : (k : Condition) → 0 < number_of k
positive anchor_purpose = omega arith
positive signature = omega arith
positive too_early = omega arith
positive expired = omega arith
positive revoked = omega arith
positive undetermined = omega arith
positive issuer_name = omega arith
positive unsupported_constraint = omega arith
positive not_permitted = omega arith
positive excluded = omega arith
positive policy_required = omega arith
positive maps_any = omega arith
positive not_ca = omega arith
positive path_length = omega arith
positive key_usage = omega arith
positive critical_extension = omega arith
positive final_policy = omega arith
positive purpose = omega arith

pub bounded : (k : Condition) → number_of k < 19
bounded anchor_purpose = omega arith
bounded signature = omega arith
bounded too_early = omega arith
bounded expired = omega arith
bounded revoked = omega arith
bounded undetermined = omega arith
bounded issuer_name = omega arith
bounded unsupported_constraint = omega arith
bounded not_permitted = omega arith
bounded excluded = omega arith
bounded policy_required = omega arith
bounded maps_any = omega arith
bounded not_ca = omega arith
bounded path_length = omega arith
bounded key_usage = omega arith
bounded critical_extension = omega arith
bounded final_policy = omega arith
bounded purpose = omega arith
