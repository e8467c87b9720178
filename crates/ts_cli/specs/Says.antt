-- The task that a command line asks for: its subcommand, and what that is given.
use Rattle.std.specs.Prelude.{◌≡◌, ◌≤◌, ℕ, Bool, List, [], ◌∷◌, IsPermutation, length, map}
use Rattle.std.specs.Prelude.{option_map}
use Rattle.std.specs.Prelude.{Option, Some, None, codes, string_bytes}
use Rattle.std.specs.List.{AllByRecursion}
use Rattle.clap.specs.Walk.{Row, Text, first_of}
use Rattle.clap.specs.Simple.{App, matches_of, subcommand_of}
use Rattle.ts_cli.specs.CommandLine.{app_in, group_of, words_in}
use Rattle.ts_literal.specs.Literals.{IsHex, IsNumberIn}
use Rattle.ts_cli.specs.Values.{IsAddressed, IsDotted, AsWritten, written}
use Rattle.ts_cli.specs.Serving.{IsServe, IsServable}
use Rattle.ts_cli.specs.Reaching.{IsReach, IsRole}
use Rattle.ts_cli.specs.declared.reach.Reach.{Reach}
use Rattle.ts_cli.specs.Verifying.{IsVerify}
use Rattle.ts_cli.specs.Syncing.{IsSync}
use Rattle.ts_cli.specs.Given.{IsAt, IsNumberAt, IsNumberOr, IsDigestAt, IsMomentAt, all_at}
use Rattle.ts_cli.specs.Given.{is_set}
use Rattle.ts_question.specs.declared.terms.Flags.{Flags}
use Rattle.ts_cli.specs.declared.command_words.CommandWords.{CommandWords}
use Rattle.ts_cli.specs.declared.command_words.CommandAction.{CommandAction}
use Rattle.ts_cli.specs.declared.command_words.CommandAction.TheVariants.{Add, Withdraw, Load, Drop}
use Rattle.ts_cli.specs.declared.command_words.CommandAction.TheVariants.{Purposes, Noop}
use Rattle.ts_cli.specs.declared.question_words.QuestionWords.{QuestionWords}
use Rattle.ts_cli.specs.declared.question_words.TermWords.{TermWords}
use Rattle.ts_cli.specs.declared.question_words.Subject.{Subject}
use Rattle.ts_cli.specs.declared.question_words.Subject.TheVariants.{Chain, Search}
use Rattle.ts_cli.specs.declared.task.Task.{Task}
use Rattle.ts_cli.specs.declared.task.Task.TheVariants.{Lab, Format, Migrate, Serve, Verify, Submit}
use Rattle.ts_cli.specs.declared.task.Task.TheVariants.{Ask, Carry, Status, CatchUp, Compact}
use Rattle.ts_cli.specs.declared.task.Task.TheVariants.{Command}
use Rattle.ts_cli.specs.declared.task.Task.TheVariants.{Question, Id, Show, Keygen, Identify}
use Rattle.ts_cli.specs.declared.task.Task.TheVariants.{Store, Log, Diff, Sync}
use Rattle.ts_cli.specs.declared.task.Task.TheVariants.{Replay}

pub record IsFormat (name : Text) (rows : List Row) (file : Text)
    (id nodes group : ℕ) : Type 0 where
  pub name_is : name ≡ codes "format"
  pub file_is : IsAt (codes "file") rows file
  pub id_is : IsNumberAt (codes "id") rows 1 nodes id
  pub nodes_is : IsNumberAt (codes "nodes") rows 1 9 nodes
  pub group_is : IsNumberOr (codes "group") rows 1 4294967295 0 group

pub record IsMigration (name : Text) (rows : List Row) (old new : Text) : Type 0 where
  pub name_is : name ≡ codes "migrate"
  pub old_is : IsAt (codes "old") rows old
  pub new_is : IsAt (codes "new") rows new

-- `submit`, `ask` and `replay`, by their names
pub record IsSending (name expected : Text) (rows : List Row) (reach : Reach)
    (file : Text) : Type 0 where
  pub name_is : name ≡ expected
  pub reach_is : IsReach rows reach
  pub file_is : IsAt (codes "file") rows file

pub record IsCarry (name : Text) (rows : List Row) (addresses : List Text)
    (rounds : ℕ) : Type 0 where
  pub name_is : name ≡ codes "carry"
  pub addresses_are : addresses ≡ all_at (codes "addresses") rows
  pub addresses_form : AllByRecursion IsAddressed addresses
  pub least : 1 ≤ length addresses
  pub most : length addresses ≤ 9
  pub rounds_is : IsNumberAt (codes "rounds") rows 1 1000000 rounds

-- `status`, `identify`, `catchup` and `compact`, by their names
pub record IsReaching (name expected : Text) (rows : List Row) (reach : Reach) : Type 0 where
  pub name_is : name ≡ expected
  pub reach_is : IsReach rows reach

-- `store` and `log`, by their names
pub record IsListing (name expected : Text) (rows : List Row) (reach : Reach) (k : Option ℕ)
    (json : Bool) : Type 0 where
  pub name_is : name ≡ expected
  pub reach_is : IsReach rows reach
  pub k_is : AsWritten (IsNumberIn 0 1000000) (first_of (codes "k") rows) k
  pub json_is : json ≡ is_set (codes "json") rows

-- `diff`
pub record IsDiff (name : Text) (rows : List Row) (reach : Reach) (old new : ℕ) : Type 0 where
  pub name_is : name ≡ codes "diff"
  pub reach_is : IsReach rows reach
  pub old_is : IsNumberAt (codes "old") rows 0 1000000 old
  pub new_is : IsNumberAt (codes "new") rows 0 1000000 new

-- `id` and `show`, by their names
pub record IsReading (name expected : Text) (rows : List Row) (file : Text) : Type 0 where
  pub name_is : name ≡ expected
  pub file_is : IsAt (codes "file") rows file

-- `ask`: what is made of the answer
pub record IsAsking (name : Text) (rows : List Row) (reach : Reach) (file : Text)
    (check explain : Bool) : Type 0 where
  pub sending : IsSending name (codes "ask") rows reach file
  pub check_is : check ≡ is_set (codes "check") rows
  pub explain_is : explain ≡ is_set (codes "explain") rows

-- ---- commands

-- `withdraw` and `drop`, by their names
pub record IsNaming (name expected : Text) (rows : List Row) (argument : Text)
    (digest : List ℕ) : Type 0 where
  pub name_is : name ≡ expected
  pub digest_is : IsDigestAt argument rows digest

-- `load`: a list, and who is to have signed it
pub record IsLoading (name : Text) (rows : List Row) (file : Text) (issuers : List Text)
    (unchecked : Bool) : Type 0 where
  pub reading : IsReading name (codes "load") rows file
  pub issuers_are : issuers ≡ all_at (codes "issuer") rows
  pub unchecked_is : unchecked ≡ is_set (codes "unchecked") rows

-- any purposes where none are given; else those, in their order
abbrev pub ArePurposesOf : List (List ℕ) → Option (List (List ℕ)) → Type 0
ArePurposesOf [] purposes = purposes ≡ None
ArePurposesOf (first ∷ others) purposes =
    (sorted : List (List ℕ)) × (purposes ≡ Some sorted) × IsPermutation (first ∷ others) sorted

pub record IsSetting (name : Text) (rows : List Row) (anchor : List ℕ)
    (purposes : Option (List (List ℕ))) : Type 0 where
  pub name_is : name ≡ codes "purposes"
  pub anchor_is : IsDigestAt (codes "anchor") rows anchor
  pub given : List (List ℕ)
  pub given_are : map written given ≡ all_at (codes "purposes") rows
  pub purposes_are : ArePurposesOf given purposes

abbrev pub SaysChange : Text → List Row → CommandAction → Type 0
SaysChange name rows (Add file) = IsReading name (codes "add") rows (string_bytes file)
SaysChange name rows (Withdraw anchor) =
    IsNaming name (codes "withdraw") rows (codes "anchor") anchor
SaysChange name rows (Load file issuers unchecked) =
    IsLoading name rows (string_bytes file) (map string_bytes issuers.items) unchecked
SaysChange name rows (Drop list) = IsNaming name (codes "drop") rows (codes "list") list
SaysChange name rows (Purposes anchor purposes) = IsSetting name rows anchor purposes
SaysChange name rows Noop = name ≡ codes "noop"

-- a command: its id by the arguments of `trustd command`, what it does by the subcommand
pub record SaysCommand (own : List Row) (name : Text) (rows : List Row)
    (words : CommandWords) : Type 0 where
  pub id_is : AsWritten (IsHex 16) (first_of (codes "id") own) words.id
  pub force_is : words.force ≡ is_set (codes "force") own
  pub change_is : SaysChange name rows words.change

-- ---- questions

abbrev pub flags_in : List Row → Flags
flags_in rows = record {
  explicit_policy = is_set (codes "explicit") rows;
  inhibit_policy_mapping = is_set (codes "nomap") rows;
  inhibit_any_policy = is_set (codes "noany") rows;
  hard = is_set (codes "hard") rows;
  use_deltas = is_set (codes "deltas") rows;
}

pub record AreTerms (rows : List Row) (terms : TermWords) : Type 0 where
  pub moment_is : IsMomentAt (codes "at") rows terms.moment
  pub flags_are : terms.flags ≡ flags_in rows
  pub k_is : AsWritten (IsNumberIn 0 1000000) (first_of (codes "k") rows) terms.k
  pub policies_are : map written terms.policies ≡ all_at (codes "policy") rows
  pub few_policies : length terms.policies ≤ 32
  pub purpose_is : AsWritten IsDotted (first_of (codes "purpose") rows) terms.purpose

-- these files: one at least, and at most so many
pub record AreFiles (most : ℕ) (expected files : List Text) : Type 0 where
  pub are : files ≡ expected
  pub some : 1 ≤ length files
  pub few : length files ≤ most

-- the files of a search: the leaf, and the pool
pub record IsSearched (rows : List Row) (files : List Text) : Type 0 where
  pub leaf : Text
  pub leaf_is : IsAt (codes "leaf") rows leaf
  pub files_are : AreFiles 33 (leaf ∷ all_at (codes "pool") rows) files

pub record IsChain (name : Text) (rows : List Row) (anchor : List ℕ) (files : List Text)
    (terms : TermWords) : Type 0 where
  pub name_is : name ≡ codes "chain"
  pub anchor_is : IsDigestAt (codes "anchor") rows anchor
  pub files_are : AreFiles 16 (all_at (codes "certificates") rows) files
  pub terms_are : AreTerms rows terms

pub record IsSearch (name : Text) (rows : List Row) (files : List Text)
    (terms : TermWords) : Type 0 where
  pub name_is : name ≡ codes "search"
  pub files_are : IsSearched rows files
  pub terms_are : AreTerms rows terms

abbrev pub IsAsked : Subject → Text → List Row → List Text → TermWords → Type 0
IsAsked (Chain anchor) name rows files terms = IsChain name rows anchor files terms
IsAsked Search name rows files terms = IsSearch name rows files terms

abbrev pub SaysQuestion : Text → List Row → QuestionWords → Type 0
SaysQuestion name rows words = IsAsked words.subject name rows
    (map string_bytes words.files.items) words.terms

-- ---- tasks

abbrev pub SaysTask : Text → List Row → Task → Type 0
SaysTask name rows Lab = name ≡ codes "lab"
SaysTask name rows (Format file id nodes group) =
    IsFormat name rows (string_bytes file) id nodes group
SaysTask name rows (Migrate old new) = IsMigration name rows (string_bytes old) (string_bytes new)
SaysTask name rows (Serve words) = (name ≡ codes "serve") × IsServe rows words
SaysTask name rows (Verify words) = (name ≡ codes "verify") × IsVerify rows words
SaysTask name rows (Submit reach file wait) =
    IsSending name (codes "submit") rows reach (string_bytes file)
    × IsNumberOr (codes "wait") rows 1 3600 0 wait
SaysTask name rows (Ask reach file check explain) =
    IsAsking name rows reach (string_bytes file) check explain
SaysTask name rows (Carry addresses rounds) =
    IsCarry name rows (map string_bytes addresses.items) rounds
SaysTask name rows (Status reach) = IsReaching name (codes "status") rows reach
SaysTask name rows (Identify reach) = IsReaching name (codes "identify") rows reach
SaysTask name rows (CatchUp reach) = IsReaching name (codes "catchup") rows reach
SaysTask name rows (Compact reach) = IsReaching name (codes "compact") rows reach
SaysTask name rows (Store reach k json) = IsListing name (codes "store") rows reach k json
SaysTask name rows (Log reach from k json) =
    IsListing name (codes "log") rows reach k json
    × IsNumberOr (codes "from") rows 1 1000000 1 from
SaysTask name rows (Diff reach old new) = IsDiff name rows reach old new
SaysTask name rows (Sync words) = (name ≡ codes "sync") × IsSync rows words
SaysTask name rows (Replay file reach wait) =
    IsSending name (codes "replay") rows reach (string_bytes file)
    × IsNumberOr (codes "wait") rows 1 3600 10 wait
SaysTask name rows (Keygen role) = (name ≡ codes "keygen") × IsRole rows role
SaysTask name rows (Id file) = IsReading name (codes "id") rows (string_bytes file)
SaysTask name rows (Show file) = IsReading name (codes "show") rows (string_bytes file)
SaysTask name rows (Command words) = ⊥
SaysTask name rows (Question words) = ⊥

-- the task by the subcommand, and the arguments before it
abbrev pub SaysAny : List Row → Text → List Row → Task → Type 0
SaysAny own name rows (Command words) = SaysCommand own name rows words
SaysAny own name rows (Question words) = SaysQuestion name rows words
SaysAny own name rows Lab = SaysTask name rows Lab
SaysAny own name rows (Format file id nodes group) =
    SaysTask name rows (Format file id nodes group)
SaysAny own name rows (Migrate old new) = SaysTask name rows (Migrate old new)
SaysAny own name rows (Serve words) = SaysTask name rows (Serve words)
SaysAny own name rows (Verify words) = SaysTask name rows (Verify words)
SaysAny own name rows (Submit reach file wait) = SaysTask name rows (Submit reach file wait)
SaysAny own name rows (Ask reach file check explain) =
    SaysTask name rows (Ask reach file check explain)
SaysAny own name rows (Carry addresses rounds) = SaysTask name rows (Carry addresses rounds)
SaysAny own name rows (Status reach) = SaysTask name rows (Status reach)
SaysAny own name rows (Identify reach) = SaysTask name rows (Identify reach)
SaysAny own name rows (CatchUp reach) = SaysTask name rows (CatchUp reach)
SaysAny own name rows (Compact reach) = SaysTask name rows (Compact reach)
SaysAny own name rows (Store reach k json) = SaysTask name rows (Store reach k json)
SaysAny own name rows (Log reach from k json) = SaysTask name rows (Log reach from k json)
SaysAny own name rows (Diff reach old new) = SaysTask name rows (Diff reach old new)
SaysAny own name rows (Sync words) = SaysTask name rows (Sync words)
SaysAny own name rows (Replay file reach wait) = SaysTask name rows (Replay file reach wait)
SaysAny own name rows (Keygen role) = SaysTask name rows (Keygen role)
SaysAny own name rows (Id file) = SaysTask name rows (Id file)
SaysAny own name rows (Show file) = SaysTask name rows (Show file)

-- the task that words ask for at a command line
pub record Asks (app : App) (words : List Text) (task : Task) : Type 0 where
  pub name : Text
  pub rows : List Row
  pub given : subcommand_of app words ≡ Some (name, rows)
  pub says : SaysAny (matches_of app words) name rows task

-- the task that words ask for
abbrev pub AsksFor : List Text → Task → Type 0
AsksFor words task = Asks (app_in (group_of words)) (words_in (group_of words) words) task

-- the numbers of a task are in range
abbrev pub IsInRange : Task → Type 0
IsInRange (Format file id nodes group) = (1 ≤ id) × (id ≤ nodes) × (nodes ≤ 9)
IsInRange (Serve words) = IsServable words
IsInRange (Verify words) = Unit {0}
IsInRange (Carry addresses rounds) =
    (1 ≤ length addresses.items) × (length addresses.items ≤ 9) × (1 ≤ rounds) × (rounds ≤ 1000000)
IsInRange Lab = Unit {0}
IsInRange (Migrate old new) = Unit {0}
IsInRange (Submit reach file wait) = wait ≤ 3600
IsInRange (Ask reach file check explain) = Unit {0}
IsInRange (Command words) = Unit {0}
IsInRange (Question words) = Unit {0}
IsInRange (Status reach) = Unit {0}
IsInRange (Identify reach) = Unit {0}
IsInRange (CatchUp reach) = Unit {0}
IsInRange (Compact reach) = Unit {0}
IsInRange (Store reach k json) = Unit {0}
IsInRange (Log reach from k json) = Unit {0}
IsInRange (Diff reach old new) = Unit {0}
IsInRange (Sync words) = words.wait ≤ 3600
IsInRange (Replay file reach wait) = wait ≤ 3600
IsInRange (Keygen role) = Unit {0}
IsInRange (Id file) = Unit {0}
IsInRange (Show file) = Unit {0}
