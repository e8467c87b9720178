-- The outcome of a command of the replicated state machine (Paxos Made Simple 3).
use Rattle.std.specs.Prelude.{suc, List, length}
use Rattle.ts_store.specs.Store.{step, store_after}
use Rattle.ts_command.specs.declared.command.Command.{Command}
use Rattle.ts_command.specs.declared.outcome.Outcome.{Outcome}

-- the command takes the position after those before it
unfoldable pub outcome_after : List Command → Command → Outcome
outcome_after commands command =
    (step (suc (length commands)) command (store_after commands)).outcome
