-- Which command line takes words, and the status that the program ends with where words give no
-- task.
use Rattle.std.specs.Prelude.{◌≡◌, ◌≢◌, ℕ, ◌≤◌, List, [], ◌∷◌, codes, drop, if◌then◌else◌}
use Rattle.std.specs.Str.{bytes_eq}
use Rattle.clap.specs.Words.{Kinds, kind_of, fault_of}
use Rattle.clap.specs.Walk.{Text}
use Rattle.clap.specs.Simple.{App}
use Rattle.clap.specs.declared.error.Error.{Error}
use Rattle.clap.specs.declared.error.kind.ErrorKind.TheVariants as kind
use Rattle.ts_cli.specs.Shapes.{program, commands, questions}
use Rattle.ts_cli.specs.declared.fault.CommandFault.{CommandFault}
use Rattle.ts_cli.specs.declared.fault.CommandFault.TheVariants.{Memory, NotText, Words, Value}
use Rattle.ts_cli.specs.declared.group.Group.{Group}
use Rattle.ts_cli.specs.declared.group.Group.TheVariants as group

-- the words are wrong, and no wish for help
abbrev pub IsWrong : Error → Type 0
IsWrong error = (kind_of error ≢ kind.DisplayHelp) × (kind_of error ≢ kind.DisplayVersion)

-- 1 when out of memory, 2 for a wrong command line, and after help 0, or 1 where it could not be
-- printed
abbrev pub EndsWith : CommandFault → ℕ → Type 0
EndsWith Memory status = status ≡ 1
EndsWith NotText status = status ≡ 2
EndsWith (Value value) status = status ≡ 2
EndsWith (Words error) status = (IsWrong error → status ≡ 2) × (¬ IsWrong error → status ≤ 1)

-- an error of the words, unless memory ran out
pub record IsFaultOf (error : Error) (fault : CommandFault) : Type 0 where
  pub memory : kind_of error ≡ kind.OutOfMemory → fault ≡ Memory
  pub words : kind_of error ≢ kind.OutOfMemory → fault ≡ Words error

-- the words of `trustd lab`, whatever the program is called
abbrev pub AskForLab : List Text → Type 0
AskForLab words = (name : Text) × (words ≡ name ∷ codes "lab" ∷ [])

-- ---- the three command lines

abbrev pub group_named : Text → Group
group_named word = if bytes_eq word (codes "command") then group.Command
    else if bytes_eq word (codes "question") then group.Question else group.Program

-- whose words these are, by the second
abbrev pub group_of : List Text → Group
group_of [] = group.Program
group_of (name ∷ []) = group.Program
group_of (name ∷ word ∷ words) = group_named word

-- the command line of a group
abbrev pub app_in : Group → App
app_in group.Program = program
app_in group.Command = commands
app_in group.Question = questions

-- its words: the program's name precedes those of the others
abbrev pub words_in : Group → List Text → List Text
words_in group.Program words = words
words_in group.Command words = drop 1 words
words_in group.Question words = drop 1 words

-- the faults that the parser finds in words
abbrev pub faults_in : List Text → Kinds
faults_in words = fault_of (app_in (group_of words)) (words_in (group_of words) words)
