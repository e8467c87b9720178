use Rattle.std.proofs.Common.{◌≡◌, drop}
use Rattle.ts_synod.specs.Log.{prefix}
use Rattle.ts_log.specs.Steps.{learned_after}
use Rattle.ts_node.specs.Growing.{has_id}
use Rattle.ts_node.proofs.roles.Roles.joins.Given as goal

abbrev pub invariant-loop-joined : goal.invariant-loop-joined
invariant-loop-joined g l =
    has_id g.M.Machine.client_id l.id
    (drop l.before (prefix (learned_after l.self.log l.step.change))) ≡ has_id g.M.Machine.client_id
    l.id (drop l.joined (prefix (learned_after l.self.log l.step.change)))
