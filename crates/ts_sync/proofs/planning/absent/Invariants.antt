use Rattle.std.proofs.Common.{◌≡◌, ◌++◌, drop}
use Rattle.ts_sync.specs.Plan.{absent}
use Rattle.ts_sync.proofs.planning.absent.Given as goal

abbrev pub invariant-loop-id : goal.invariant-loop-id
invariant-loop-id l = l.kept.items ++ absent (l.others ++ l.kept.items) (drop l.id-index l.ids) ≡ absent l.others l.ids
