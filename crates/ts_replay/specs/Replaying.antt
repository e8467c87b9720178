-- A replay: the commands of a record are brought to a node, each to the position that it has in the
-- record.
use Rattle.std.specs.Prelude.{◌≡◌, ◌==◌, ℕ, suc, List, [], ◌∷◌, Option, Some, None, nat_lt}
use Rattle.std.specs.Prelude.{drop, if◌then◌else◌}
use Rattle.std.specs.Borrow.{Bor}
use Rattle.ts_command.specs.declared.command.Command.{Command}
use Rattle.ts_replay.specs.declared.replaying.Replay.{Replay}
use Rattle.ts_replay.specs.declared.replaying.Step.{Step}
use Rattle.ts_replay.specs.declared.replaying.Step.TheVariants.{Look, Submit, Done}

-- nothing is done yet, and the node knows so many commands
abbrev pub begun : ℕ → Replay
begun known = record { known = known; done = 0 }

-- The step for the first command that is left: the node is asked where it has it, where it knew so
-- many commands at first; else it is submitted.
abbrev pub step_for : List Command → Replay → Step Command
step_for [] r = Done
step_for (c ∷ cs) r = if nat_lt r.done r.known then Look c else Submit c

-- what is done next
abbrev pub next : List Command → Replay → Step Command
next commands r = step_for (drop r.done commands) r

-- the replay once the node has said where the command of the step is settled: it goes on where that
-- is the command's position in the record, and ends otherwise
abbrev pub after : Replay → Option ℕ → Option Replay
after r (Some p) = if p == suc r.done then Some (record r { done = p }) else None
after r None = None

-- the step with the command that it borrows
abbrev pub step_copied : Step (Bor Command) → Step Command
step_copied (Look c) = Look c.now
step_copied (Submit c) = Submit c.now
step_copied Done = Done

-- ---- runs

-- the command that a step is about
abbrev pub command_in : Step Command → Option Command
command_in (Look c) = Some c
command_in (Submit c) = Some c
command_in Done = None

-- a step that was made: the command that it is about, and where the node said that this is settled
pub record Made : Type 0 where
  pub command : Command
  pub settled : Option ℕ

-- the replay at r is at s once these steps are made, each of which was the next one
abbrev pub Leads : List Command → Replay → List Made → Replay → Type 0
Leads commands r [] s = r ≡ s
Leads commands r (m ∷ ms) s = (command_in (next commands r) ≡ Some m.command)
    × ((t : Replay) × (after r m.settled ≡ Some t) × Leads commands t ms s)

-- each of these commands is settled at its position, the first of them at p
abbrev pub settled_from : ℕ → List Command → List Made
settled_from p [] = []
settled_from p (c ∷ cs) = record { command = c; settled = Some p } ∷ settled_from (suc p) cs
