use Rattle.std.proofs.Common.{◌≡◌, ◌≤◌, is_some, Some}
use Rattle.ts_synod.specs.Lists.{update_at}
use Rattle.ts_synod.specs.Majority.{count}
use Rattle.ts_proposer.specs.Promises.{promises_in}
use Rattle.ts_proposer.proofs.promises.has_majority.Given as goal

abbrev pub invariant-loop-node : goal.invariant-loop-node
invariant-loop-node g l = record { given : l.given ≡ count (λ a. is_some (update_at (promises_in l.promises) l.from (Some l.taken) a)) l.node; within : l.given ≤ l.node }
