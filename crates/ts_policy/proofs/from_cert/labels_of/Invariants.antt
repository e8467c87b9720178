use Rattle.std.proofs.Common.{◌≡◌, ◌++◌, map}
use Rattle.ts_shape.specs.Items.{items_at}
use Rattle.ts_ext.specs.Reading.{policy_information_in}
use Rattle.ts_ext.specs.View.{policies_in}
use Rattle.ts_policy.specs.Stated.{identifiers}
use Rattle.ts_policy.proofs.from_cert.labels_of.Given as goal

abbrev pub invariant-loop-policy : goal.invariant-loop-policy
invariant-loop-policy l = map (λ p. p.content.now) l.labels.items ++ identifiers (items_at policy_information_in l.policy-iterator.rest) ≡ identifiers (policies_in l.fn.policies)
