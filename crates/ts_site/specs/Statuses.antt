-- How a node is and what became of a command, over HTTP at /healthz, /v1/status and /v1/commands.
use Rattle.std.specs.Prelude.{ℕ, List, [], ◌∷◌, Option, Some, None, codes, option_map}
use Rattle.hex.specs.Hex.{encode_lower}
use Rattle.serde_json.specs.Data.{string}
use Rattle.ts_command.specs.Outcomes.{outcome_words}
use Rattle.ts_command.specs.declared.outcome.Outcome.{Outcome}
use Rattle.ts_form.specs.Rows.{NameId}
use Rattle.ts_json.specs.Answer.{whole}
use Rattle.ts_json.specs.Members.{NamedValue as Member, object_of}
use Rattle.ts_json.specs.Object.{number_or_null, text_or_null}
use Rattle.ts_wire.specs.declared.frame.Frame.{Frame}
use Rattle.ts_wire.specs.declared.frame.Frame.TheVariants as frames
use Rattle.ts_api.specs.Asking.{pairs_in}
use Rattle.ts_api.specs.Response.{IsError, IsJson, IsLine}
use Rattle.ts_site.specs.Steps.{Answers, AsksNode, failed}
use Rattle.ts_api.specs.declared.response.Response.{Response}
use Rattle.ts_site.specs.declared.next.Next.{Next}
use Rattle.ts_site.specs.declared.next.Waits.TheVariants as waits

-- a node that answers is well
abbrev pub TellsHealth : Option ℕ → Response → Type 0
TellsHealth (Some prefix) response = IsLine 200 (codes "ok") response
TellsHealth None response = IsLine 503 failed response

-- a node that knows so many commands is asked which it is
abbrev pub EndsPrefix : Option ℕ → Next → Type 0
EndsPrefix (Some prefix) next = AsksNode frames.Identify (waits.Identity prefix) next
EndsPrefix None next = Answers (IsError 503 failed) next

abbrev pub status_members : ℕ → ℕ → ℕ → ℕ → List Member
status_members prefix node nodes group = (codes "prefix", whole prefix)
    ∷ (codes "node", whole node) ∷ (codes "nodes", whole nodes) ∷ (codes "group", whole group) ∷ []

abbrev pub TellsStatus : ℕ → Frame → Response → Type 0
TellsStatus prefix (frames.Identity node nodes group) response =
    IsJson 200 (object_of (status_members prefix node nodes group)) response
TellsStatus prefix frame response = IsError 503 failed response

-- ---- what became of a command

abbrev pub no_id_words : List ℕ
no_id_words = codes "id is not the 32 lower-case hexadecimal digits of a command's id"

-- the pairs of a target name no command
abbrev pub NamesNone : List ℕ → Type 0
NamesNone target = (id : List ℕ) → ¬ (NameId (pairs_in target) id)

-- the command that they name, if they name one
abbrev pub IsNamed : List ℕ → Option (List ℕ) → Type 0
IsNamed target None = NamesNone target
IsNamed target (Some id) = NameId (pairs_in target) id

abbrev pub AsksOutcome : Option (List ℕ) → Next → Type 0
AsksOutcome None next = Answers (IsError 400 no_id_words) next
AsksOutcome (Some id) next = AsksNode (frames.Outcome id) (waits.Command id) next

abbrev pub BeginsOutcome : List ℕ → Next → Type 0
BeginsOutcome target next = (id : Option (List ℕ)) × IsNamed target id × AsksOutcome id next

abbrev pub command_members : List ℕ → Option ℕ → Option Outcome → List Member
command_members id position outcome = (codes "id", string (encode_lower id))
    ∷ (codes "position", number_or_null position)
    ∷ (codes "outcome", text_or_null (option_map outcome_words outcome)) ∷ []

-- a round began for it; or it is known; or no known command has the id
abbrev pub TellsCommand : List ℕ → Frame → Response → Type 0
TellsCommand id (frames.Started position ballot) response =
    IsJson 202 (object_of (command_members id (Some position) None)) response
TellsCommand id (frames.Settled position outcome) response =
    IsJson 200 (object_of (command_members id (Some position) (Some outcome))) response
TellsCommand id frames.Unknown response =
    IsJson 404 (object_of (command_members id None None)) response
TellsCommand id frame response = IsError 503 failed response
