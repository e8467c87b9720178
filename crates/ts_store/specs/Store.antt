-- The trust store: a fold over commands, one step and its outcome.
use Rattle.std.specs.Prelude.{ℕ, suc, List, [], ◌∷◌, Option, Some, None, Result, Ok, Err}
use Rattle.ts_command.specs.Commands.{id_of}
use Rattle.ts_store.specs.Ids.{first_of, with_first}
use Rattle.ts_store.specs.Tables.{Tables, no_tables, change}
use Rattle.ts_command.specs.declared.command.Command.{Command}
use Rattle.ts_store.specs.declared.ids.FirstCommand.{FirstCommand}
use Rattle.ts_command.specs.declared.outcome.Outcome.{Outcome}
use Rattle.ts_command.specs.declared.outcome.Outcome.TheVariants.{Applied, Repeated, Refused}
use Rattle.ts_command.specs.declared.outcome.Refusal.{Refusal}

-- the tables; of each id so far the first command that has it, by its position and outcome; the
-- number of commands so far, whatever their outcomes
pub record StoreState : Type 0 where
  pub tables : Tables
  pub ids : List (List ℕ × FirstCommand)
  pub taken : ℕ

-- a state and an outcome
pub record Step : Type 0 where
  pub state : StoreState
  pub outcome : Outcome

-- a command with a new id holds its position and its id, whatever its outcome
abbrev pub new_step : ℕ → Command → StoreState → Tables → Outcome → Step
new_step position command state tables outcome = record {
  state = record {
    tables = tables;
    ids = with_first (id_of command)
        (record { position = position; outcome = outcome }) state.ids;
    taken = suc state.taken;
  };
  outcome = outcome;
}

-- it changes the tables where it is not refused
abbrev pub make : ℕ → Command → StoreState → Result Tables Refusal → Step
make position command state (Ok tables) = new_step position command state tables Applied
make position command state (Err refusal) =
    new_step position command state state.tables (Refused refusal)

-- a command whose id is there holds its position alone
abbrev pub step_by : ℕ → Command → StoreState → Option FirstCommand → Step
step_by position command state (Some first) =
    record { state = record state { taken = suc state.taken }; outcome = Repeated first.position }
step_by position command state None = make position command state (change command state.tables)

-- one command at its position
abbrev pub step : ℕ → Command → StoreState → Step
step position command state = step_by position command state (first_of (id_of command) state.ids)

abbrev pub empty : StoreState
empty = record { tables = no_tables; ids = []; taken = 0 }

-- the commands from a state on, each at the position after those before it
abbrev pub after : StoreState → List Command → StoreState
after state [] = state
after state (command ∷ commands) = after (step (suc state.taken) command state).state commands

-- the store after these commands
abbrev pub store_after : List Command → StoreState
store_after commands = after empty commands
