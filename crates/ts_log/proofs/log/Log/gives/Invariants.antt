use Rattle.std.proofs.Common.{◌≡◌, ◌++◌}
use Rattle.ts_synod.specs.Log.{ask_length, on_ask}
use Rattle.ts_log.specs.Log.{config_of, learned_of}
use Rattle.ts_log.proofs.Giving.{left}
use Rattle.ts_log.proofs.log.Log.gives.Given as goal

abbrev pub invariant-loop-given : goal.invariant-loop-given
invariant-loop-given g l = l.messages.items
    ++ left (config_of l.self) l.from l.position (ask_length l.position) (learned_of l.self) l.given
    ≡ on_ask (config_of l.self) (learned_of l.self) l.from l.position
