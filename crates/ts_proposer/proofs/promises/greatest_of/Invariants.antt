use Rattle.std.proofs.Common.{◌≡◌, Some}
use Rattle.std.specs.Option.{option_copied}
use Rattle.ts_synod.specs.Lists.{update_at}
use Rattle.ts_synod.specs.Proposer.{greatest_reported}
use Rattle.ts_proposer.specs.Promises.{promises_in}
use Rattle.ts_proposer.proofs.promises.greatest_of.Given as goal

abbrev pub invariant-loop-node : goal.invariant-loop-node
invariant-loop-node g l = option_copied l.greatest ≡ greatest_reported (update_at (promises_in l.promises) l.from (Some l.taken)) l.node
