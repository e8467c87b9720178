use Rattle.std.proofs.Common.{◌≡◌, ◌++◌, map, take}
use Rattle.ts_sync.specs.Plan.{step}
use Rattle.ts_sync.proofs.planning.push_steps.Given as goal

abbrev pub invariant-loop-id : goal.invariant-loop-id
invariant-loop-id l = l.steps.items ≡ l.fn.steps.items ++ map (step l.kind) (take l.id-index l.ids)
