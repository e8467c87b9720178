-- The steps of a plan: what each brings, its command and its line.
use Rattle.std.specs.Prelude.{◌≡◌, ◌<◌, ℕ, List, [], ◌∷◌, ◌++◌, length, codes, find}
use Rattle.std.specs.Prelude.{Option, Some, None}
use Rattle.std.specs.Str.{bytes_eq}
use Rattle.ts_command.specs.declared.command.Command.{Command}
use Rattle.ts_command.specs.declared.command.Command.TheVariants.{AddAnchor, LoadCrl, DropCrl}
use Rattle.ts_command.specs.declared.command.Command.TheVariants.{WithdrawAnchor}
use Rattle.ts_line.specs.Lines.{hex, printable}
use Rattle.ts_sync.specs.declared.planning.PlanStep.{PlanStep}
use Rattle.ts_sync.specs.declared.planning.StepKind.{StepKind}
use Rattle.ts_sync.specs.declared.planning.StepKind.TheVariants.{Add, Load, Drop, Withdraw}
use Rattle.ts_exchange.specs.declared.steps.StepFault.{StepFault}
use Rattle.ts_exchange.specs.declared.steps.StepFault.TheVariants.{Memory, TooLong}
use Rattle.ts_exchange.specs.declared.value.Value.{Value}
use Rattle.ts_exchange.specs.declared.steps.WantedFiles.{WantedFiles}

-- the first value of an id
abbrev pub first_of : List Value → List ℕ → Option Value
first_of values id = find (λ v. bytes_eq v.id id) values

abbrev pub brought_as : StepKind → WantedFiles → List ℕ → Option Value
brought_as Add wanted id = first_of wanted.anchors.items id
brought_as Load wanted id = first_of wanted.crls.items id
brought_as Drop wanted id = None
brought_as Withdraw wanted id = None

-- the value that a step brings, if it brings one
abbrev pub brought_by : WantedFiles → PlanStep → Option Value
brought_by wanted step = brought_as step.kind wanted step.id

-- the command that does a step, with the octets that are brought
abbrev pub command_for : StepKind → List ℕ → List ℕ → List ℕ → Command
command_for Add id about octets = AddAnchor id octets
command_for Load id about octets = LoadCrl id octets
command_for Drop id about octets = DropCrl id about
command_for Withdraw id about octets = WithdrawAnchor id about

-- there is no such command, unless memory is refused
abbrev pub IsUnmade : StepKind → List ℕ → StepFault → Type 0
IsUnmade kind octets Memory = Unit {0}
IsUnmade Add octets TooLong = 65536 < length octets
IsUnmade Load octets TooLong = 4194304 < length octets
IsUnmade kind octets TooLong = ⊥

-- ---- a line

abbrev pub word_of : StepKind → List ℕ
word_of Add = codes "add"
word_of Load = codes "load"
word_of Drop = codes "drop"
word_of Withdraw = codes "withdraw"

abbrev pub file_word : Option (List ℕ) → List ℕ
file_word None = []
file_word (Some file) = 32 ∷ printable file

-- what it does, the id that it is about and, where it brings one, the file
abbrev pub line_of : StepKind → List ℕ → Option (List ℕ) → List ℕ
line_of kind id file =
    printable (word_of kind) ++ printable (codes " ") ++ hex id ++ file_word file
