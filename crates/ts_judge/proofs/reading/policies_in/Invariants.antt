use Rattle.std.proofs.Common.{◌≡◌, map, take}
use Rattle.ts_judge.proofs.reading.policies_in.Given as goal

abbrev pub invariant-loop-oid : goal.invariant-loop-oid
invariant-loop-oid l = map (λ p. p.content.now) l.policies.items ≡ take l.oid-index l.oids
