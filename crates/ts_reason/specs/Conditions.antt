-- The conditions of path validation by name (RFC 5280 6.1.3 to 6.1.5), numbered in the order in
-- which they are given as reasons.
use Rattle.std.specs.Prelude.{ℕ}

-- all conditions, by the names of the reasons
pub data Condition : Type 0 where
  anchor_purpose : Condition
  signature : Condition
  too_early : Condition
  expired : Condition
  revoked : Condition
  undetermined : Condition
  issuer_name : Condition
  unsupported_constraint : Condition
  not_permitted : Condition
  excluded : Condition
  policy_required : Condition
  maps_any : Condition
  not_ca : Condition
  path_length : Condition
  key_usage : Condition
  critical_extension : Condition
  final_policy : Condition
  purpose : Condition

abbrev pub number_of : Condition → ℕ
number_of anchor_purpose = 1
number_of signature = 2
number_of too_early = 3
number_of expired = 4
number_of revoked = 5
number_of undetermined = 6
number_of issuer_name = 7
number_of unsupported_constraint = 8
number_of not_permitted = 9
number_of excluded = 10
number_of policy_required = 11
number_of maps_any = 12
number_of not_ca = 13
number_of path_length = 14
number_of key_usage = 15
number_of critical_extension = 16
number_of final_policy = 17
number_of purpose = 18
