use Rattle.std.proofs.Common.{◌≡◌, take}
use Rattle.ts_log.specs.Log.{learned_of}
use Rattle.ts_synod.specs.Log.{prefix}
use Rattle.ts_replay.proofs.recorded.prefix_in.Given as goal

abbrev pub invariant-loop-known : goal.invariant-loop-known
invariant-loop-known l = l.commands.items ≡ take l.known (prefix (learned_of l.log))
