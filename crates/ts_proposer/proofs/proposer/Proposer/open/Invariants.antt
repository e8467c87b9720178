use Rattle.std.proofs.Common.{◌≡◌, take}
use Rattle.ts_synod.specs.Force.{used_round}
use Rattle.ts_proposer.proofs.proposer.Proposer.open.Given as goal

abbrev pub invariant-loop-fact : goal.invariant-loop-fact
invariant-loop-fact g l = l.used ≡ used_round (take l.fact-index l.facts)
