use Rattle.std.proofs.Common.{◌≡◌, take}
use Rattle.ts_synod.specs.Log.{prefix}
use Rattle.ts_log.specs.Log.{learned_of}
use Rattle.ts_node.proofs.feeding.feed.Given as goal

abbrev pub invariant-loop-taken : goal.invariant-loop-taken
invariant-loop-taken g l = record { taken : g.M.Machine.commands l.machine ≡ take l.taken (prefix (learned_of l.log)); basis : g.M.Machine.basis l.machine ≡ g.M.Machine.basis l.initial.machine }
