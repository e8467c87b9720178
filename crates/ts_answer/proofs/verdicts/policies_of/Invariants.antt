use Rattle.std.proofs.Common.{◌≡◌, map, take}
use Rattle.ts_answer.proofs.verdicts.policies_of.Given as goal

abbrev pub invariant-loop-policy : goal.invariant-loop-policy
invariant-loop-policy l = l.oids.items ≡ map (λ p. p.content.now) (take l.policy-index l.policies)
