-- What private clauses see of a history: the contents that its changes give, and that they are
-- those of the store after any number of its commands.
use Rattle.std.specs.Prelude.{◌≡◌, ◌≤◌, ℕ, List, [], ◌∷◌, length, map, take}
use Rattle.ts_store.specs.Store.{StoreState, store_after}
use Rattle.ts_command.specs.declared.command.Command.{Command}
use Rattle.ts_command.specs.declared.outcome.Outcome.{Outcome}
use Rattle.ts_command.specs.declared.outcome.Outcome.TheVariants.{Applied, Repeated, Refused}
use Rattle.ts_store.specs.Contents.{Contents, no_contents, contents_of}
use Rattle.ts_store.specs.inside.Taken.{command_in, apply_change}
use Rattle.ts_store.specs.declared.taken.TableChange.{TableChange}
use Rattle.ts_store.specs.declared.taken.TableChange.TheVariants.{Nothing}
use Rattle.ts_store.specs.declared.taken.TakenCommand.{TakenCommand}

-- a command that is not applied changes nothing
abbrev pub change_if : Outcome → TableChange → TableChange
change_if Applied change = change
change_if (Repeated position) change = Nothing
change_if (Refused refusal) change = Nothing

-- the contents after changes in turn
abbrev pub replay : Contents → List TakenCommand → Contents
replay c [] = c
replay c (t ∷ ts) = replay (apply_change t.change t.kept c) ts

-- the commands, as the store takes them
abbrev pub commands_in : List TakenCommand → List Command
commands_in taken = map (λ t. command_in t.kept) taken

-- the store is the one after the commands; and for each k the first k changes give what its tables
-- hold after the first k commands
pub record IsHistory (taken : List TakenCommand) (store : StoreState) : Type 0 where
  pub now : store ≡ store_after (commands_in taken)
  pub counted : store.taken ≡ length taken
  pub few : length taken ≤ 1000000
  pub past : (k : ℕ) → k ≤ length taken
      → replay no_contents (take k taken)
      ≡ contents_of (store_after (commands_in (take k taken))).tables
