-- The command lines as `clap` sees them: of the program, of `trustd command` and of `trustd
-- question`.
use Rattle.std.specs.Prelude.{true, false, List, [], ◌∷◌, ◌++◌, Some, codes, ◌≡◌}
use Rattle.clap.specs.Walk.{Rule, Text, is_empty}
use Rattle.clap.specs.Simple.{App, Shape, app_of, new_rule, new_shape, shape_of, with_rule}
use Rattle.clap.specs.Simple.{with_subcommand}
use Rattle.clap.specs.declared.builder.action.ArgAction.TheVariants.{Set, Append, SetTrue}
use Rattle.clap.specs.declared.builder.command.Command.{Command}
use Rattle.clap.specs.declared.builder.command.Command.TheViews.{out-Command}

-- ---- arguments

-- `--name VALUE`, at most once
abbrev pub option : Text → Rule
option name = record (new_rule name) { long = Some name; action = Some Set; value_names = 1 }

-- `--name VALUE`, any number of times
abbrev pub options : Text → Rule
options name = record (new_rule name) { long = Some name; action = Some Append; value_names = 1 }

-- `--name`, at most once
abbrev pub flag : Text → Rule
flag name = record (new_rule name) { long = Some name; action = Some SetTrue }

-- a word that is where it is
abbrev pub word : Text → Rule
word name = record (new_rule name) { action = Some Set; value_names = 1; required = true }

-- any number of words to the end
abbrev pub words : Text → Rule
words name = record (new_rule name) { action = Some Append; value_names = 1 }

-- what has to be given
abbrev pub mandatory : Rule → Rule
mandatory rule = record rule { required = true }

-- ---- commands

abbrev pub leaf : Text → List Rule → Shape
leaf name rules = record (new_shape name) { rules = rules }

-- a command with one more argument
abbrev pub with_argument : Shape → Rule → Shape
with_argument shape rule = record shape { rules = shape.rules ++ rule ∷ [] }

-- a command with more arguments
abbrev pub with_arguments : Shape → List Rule → Shape
with_arguments shape [] = shape
with_arguments shape (rule ∷ rules) = with_arguments (with_argument shape rule) rules

-- a command that wants a subcommand, and has none for help
abbrev pub choice : Text → List Rule → List Shape → App
choice name rules subs = record {
  top = record (leaf name rules)
      { is_leaf = is_empty subs; subcommand_required = true; disable_help_subcommand = true };
  subs = subs;
}

-- with a version, which `--version` prints
abbrev pub with_version : App → App
with_version app = record app { top = record app.top { has_version = true } }

-- with one more subcommand
abbrev pub among : App → Shape → App
among app sub = with_subcommand app sub

-- with subcommands, one after another
abbrev pub with_tasks : App → List Shape → App
with_tasks app [] = app
with_tasks app (sub ∷ subs) = with_tasks (among app sub) subs

-- a command of this shape
abbrev pub IsShape : Shape → Command → Type 0
IsShape shape command = shape_of command ≡ shape

-- no argument of a command is that of its subcommands
abbrev pub IsLocal : Command → Type 0
IsLocal command = (out-Command command).has_globals ≡ false

-- a command that wants a subcommand of this application
abbrev pub IsApp : App → Command → Type 0
IsApp app command = app_of command ≡ app

-- a file
abbrev pub reading : Text → Shape
reading name = leaf name (word (codes "file") ∷ [])

-- ---- the program

unfoldable pub lab : Shape
lab = leaf (codes "lab") []

unfoldable pub format : Shape
format = leaf (codes "format")
    (word (codes "file") ∷ mandatory (option (codes "id")) ∷ mandatory (option (codes "nodes"))
    ∷ option (codes "group") ∷ [])

unfoldable pub migrate : Shape
migrate = leaf (codes "migrate") (word (codes "old") ∷ word (codes "new") ∷ [])

-- how long a client is waited for, and how many are served at once
unfoldable pub with_limits : Shape → Shape
with_limits own = with_arguments own
    (option (codes "idle") ∷ option (codes "request") ∷ option (codes "connections-at-once")
    ∷ option (codes "connections") ∷ [])

-- whom messages are carried to, and whether standard error is told what happens
unfoldable pub with_group : Shape → Shape
with_group own = with_arguments own (options (codes "peer") ∷ flag (codes "quiet") ∷ [])

-- whose requests are taken, what the node shows its peers, and where HTTP is spoken
unfoldable pub with_access : Shape → Shape
with_access own = with_arguments own
    (option (codes "keys") ∷ option (codes "key") ∷ option (codes "http")
    ∷ flag (codes "open") ∷ [])

unfoldable pub serve : Shape
serve = with_limits (with_access (with_group (leaf (codes "serve") (word (codes "file")
    ∷ mandatory (option (codes "listen")) ∷ option (codes "table") ∷ flag (codes "stand-in") ∷
    []))))

-- what path validation is asked beside the certificates
unfoldable pub with_inputs : Shape → Shape
with_inputs own = with_arguments own
    (option (codes "at") ∷ option (codes "host") ∷ flag (codes "soft") ∷ flag (codes "deltas")
    ∷ flag (codes "explicit") ∷ flag (codes "nomap") ∷ flag (codes "noany")
    ∷ options (codes "policy") ∷ option (codes "purpose") ∷ [])

unfoldable pub verify : Shape
verify = with_inputs (leaf (codes "verify") (mandatory (options (codes "anchor"))
    ∷ options (codes "crl") ∷ mandatory (words (codes "certificates")) ∷ flag (codes "json") ∷ []))

-- with the key that a node is shown
unfoldable pub with_key : Shape → Shape
with_key own = with_argument own (option (codes "key"))

-- an address and a file
abbrev pub sending : Text → Shape
sending name = with_key (leaf name (word (codes "address") ∷ word (codes "file") ∷ []))

-- an address and a file, and how long to wait
unfoldable pub submit : Shape
submit = with_argument (sending (codes "submit")) (option (codes "wait"))

-- what is made of the verdict that is printed
unfoldable pub with_verdict : Shape → Shape
with_verdict own = with_arguments own (flag (codes "check") ∷ flag (codes "explain") ∷ [])

-- an address
abbrev pub reaching : Text → Shape
reaching name = with_key (leaf name (word (codes "address") ∷ []))

-- a role, and the node that it is of
unfoldable pub keygen : Shape
keygen = leaf (codes "keygen") (word (codes "role") ∷ option (codes "node") ∷ [])

unfoldable pub carry : Shape
carry = leaf (codes "carry") (mandatory (words (codes "addresses")) ∷ mandatory
    (option (codes "rounds"))
    ∷ [])

-- whose words go to another command line
abbrev pub subcommand_shape : Text → Shape
subcommand_shape name = leaf name []

-- the tasks of a node
unfoldable pub node_tasks : App
node_tasks = with_tasks (with_version (choice (codes "trustd") [] []))
    (lab ∷ format ∷ migrate ∷ serve ∷ submit ∷ with_verdict (sending (codes "ask"))
    ∷ carry ∷ [])

-- the tasks of a node's upkeep, after others
unfoldable pub with_upkeep : App → App
with_upkeep app = with_tasks app
    (reaching (codes "status") ∷ reaching (codes "identify") ∷ reaching (codes "catchup")
    ∷ reaching (codes "compact") ∷ keygen ∷ [])

-- after how many commands a store is looked at, and whether JSON is printed
unfoldable pub with_listing : Shape → Shape
with_listing own = with_arguments own (option (codes "k") ∷ flag (codes "json") ∷ [])

unfoldable pub store : Shape
store = with_listing (reaching (codes "store"))

unfoldable pub log : Shape
log = with_listing (with_argument (reaching (codes "log")) (option (codes "from")))

-- an address, and two numbers of commands
unfoldable pub diff : Shape
diff = with_key (leaf (codes "diff")
    (word (codes "address") ∷ word (codes "old") ∷ word (codes "new") ∷ []))

-- the tasks that print what a store holds, after others
unfoldable pub with_listings : App → App
with_listings app = with_tasks app (store ∷ log ∷ diff ∷ [])

-- the files of what a store is to hold, and of those who may have signed it; which of them count
unfoldable pub with_material : Shape → Shape
with_material own = with_arguments own
    (options (codes "anchors") ∷ flag (codes "pass-over") ∷ options (codes "crls")
    ∷ options (codes "issuer") ∷ flag (codes "unchecked") ∷ [])

-- an address, what is to be held, whether it is only said, and how long to wait
unfoldable pub sync : Shape
sync = with_arguments (with_material (reaching (codes "sync")))
    (flag (codes "dry-run") ∷ option (codes "wait") ∷ [])

-- a record, an address, and how long to wait
unfoldable pub replay : Shape
replay = with_argument (with_key (leaf (codes "replay")
    (word (codes "file") ∷ word (codes "address") ∷ []))) (option (codes "wait"))

unfoldable pub program : App
program = with_tasks (with_listings (with_upkeep (with_tasks node_tasks
    (verify ∷ subcommand_shape (codes "command") ∷ subcommand_shape (codes "question") ∷ reading
    (codes "id")
    ∷ reading (codes "show") ∷ [])))) (sync ∷ replay ∷ [])

-- ---- `trustd command`

-- the id of an anchor or a list
abbrev pub naming : Text → Text → Shape
naming name argument = leaf name (word argument ∷ [])

-- a file, the certificates of its issuers, and whether they are not asked
unfoldable pub load : Shape
load = with_arguments (reading (codes "load"))
    (options (codes "issuer") ∷ flag (codes "unchecked") ∷ [])

unfoldable pub purposes : Shape
purposes = leaf (codes "purposes") (word (codes "anchor") ∷ words (codes "purposes") ∷ [])

unfoldable pub commands : App
commands = with_tasks (with_rule (with_rule (choice (codes "command") [] []) (option (codes "id")))
    (flag (codes "force"))) (
    reading (codes "add") ∷ naming (codes "withdraw") (codes "anchor") ∷ load
    ∷ naming (codes "drop") (codes "list")
    ∷ purposes ∷ leaf (codes "noop") [] ∷ []
    )

-- ---- `trustd question`

unfoldable pub with_flags : Shape → Shape
with_flags own = with_arguments own
    (flag (codes "hard") ∷ flag (codes "deltas") ∷ flag (codes "explicit") ∷ flag (codes "nomap")
    ∷ flag (codes "noany") ∷ [])

-- what both questions take after arguments of their own
unfoldable pub with_terms : Shape → Shape
with_terms own =
    let begun = with_arguments own (mandatory (option (codes "at")) ∷ option (codes "k") ∷ []) in
    with_arguments (with_flags begun) (options (codes "policy") ∷ option (codes "purpose") ∷ [])

unfoldable pub chain : Shape
chain = with_terms (leaf (codes "chain")
    (mandatory (option (codes "anchor")) ∷ mandatory (words (codes "certificates")) ∷ []))

unfoldable pub search : Shape
search = with_terms (leaf (codes "search") (word (codes "leaf") ∷ words (codes "pool") ∷ []))

unfoldable pub questions : App
questions = with_tasks (choice (codes "question") [] []) (chain ∷ search ∷ [])
