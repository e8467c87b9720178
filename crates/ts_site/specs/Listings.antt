-- What a store holds and the commands that it took, over HTTP at /v1/store and /v1/log.
use Rattle.std.specs.Prelude.{◌≡◌, ◌⊎◌, ◌+◌, ◌++◌, ℕ, Bool, true, false, List, [], ◌∷◌}
use Rattle.std.specs.Prelude.{Option, Some, None, Result, Ok, Err, codes, is_some, unwrap_or}
use Rattle.std.specs.Fmt.{decimal}
use Rattle.ts_form.specs.Pairs.{AreFew, AreMany, NamedValue}
use Rattle.ts_form.specs.Rows.{IsRefusedInAll, SetsAll, no_rows}
use Rattle.ts_form.specs.declared.fault.FormFault.{FormFault}
use Rattle.ts_form.specs.declared.fault.FormFault.TheVariants.{Many}
use Rattle.ts_form.specs.declared.rows.RowsWanted.{RowsWanted}
use Rattle.ts_json.specs.Answer.{whole}
use Rattle.ts_json.specs.Members.{NamedValue as Member, page_of}
use Rattle.ts_question.specs.Question.{StoreQuestion, plain_terms}
use Rattle.ts_question.specs.Reply.{NumberedReply}
use Rattle.ts_question.specs.declared.question.Target.{Target}
use Rattle.ts_question.specs.declared.question.Target.TheVariants.{Log, Store}
use Rattle.ts_question.specs.declared.reply.Reply.{Reply}
use Rattle.ts_question.specs.declared.reply.Reply.TheVariants.{NotYet, Page}
use Rattle.ts_render.specs.RowMembers.{members_of_row}
use Rattle.ts_render.specs.Rows.{IsNoRow, IsRow}
use Rattle.ts_render.specs.declared.rows.RowFields.{RowFields}
use Rattle.ts_wire.specs.declared.frame.Frame.TheVariants.{Question}
use Rattle.ts_api.specs.Asking.{pairs_in}
use Rattle.ts_api.specs.Response.{IsError, Tells, json_line}
use Rattle.ts_api.specs.Words.{fault_words}
use Rattle.ts_api.specs.declared.response.Content.TheVariants.{Json}
use Rattle.ts_api.specs.declared.response.Response.{Response}
use Rattle.ts_site.specs.Steps.{Answers, AsksNode, failed}
use Rattle.ts_site.specs.Verdicts.{keeps_of}
use Rattle.ts_site.specs.declared.next.Next.{Next}
use Rattle.ts_site.specs.declared.next.RowsAsked.{RowsAsked}
use Rattle.ts_site.specs.declared.next.Waits.TheVariants as waits

-- ---- what is asked

abbrev pub rows_target : Bool → ℕ → Target
rows_target true from = Log from
rows_target false from = Store from

-- the question for the rows of the log, or else of the store, after k commands and so many rows
abbrev pub rows_question : Bool → Option ℕ → ℕ → StoreQuestion
rows_question log k from = record { terms = plain_terms k; target = rows_target log from }

-- what pairs want, or why they are refused: there are too many, or one is refused
abbrev pub AreWanted : List NamedValue → Result RowsWanted FormFault → Type 0
AreWanted pairs (Ok wanted) = AreFew pairs × SetsAll pairs no_rows wanted
AreWanted pairs (Err Many) = AreMany pairs
AreWanted pairs (Err fault) = AreFew pairs × IsRefusedInAll pairs no_rows fault

abbrev pub rows_asked : Bool → RowsWanted → RowsAsked
rows_asked log wanted =
    record { log = log; from = unwrap_or wanted.from 0; is_pinned = is_some wanted.k }

abbrev pub AsksRows : Bool → Result RowsWanted FormFault → Next → Type 0
AsksRows log (Ok wanted) next =
    AsksNode (Question (rows_question log wanted.k (unwrap_or wanted.from 0)))
    (waits.Rows (rows_asked log wanted)) next
AsksRows log (Err fault) next = Answers (IsError 400 (fault_words fault)) next

-- what a request with this target comes to
abbrev pub BeginsRows : Bool → List ℕ → Next → Type 0
BeginsRows log target next = (wanted : Result RowsWanted FormFault)
    × AreWanted (pairs_in target) wanted × AsksRows log wanted next

-- ---- what is answered

-- the members of each row, of which so many stand before the first
abbrev pub AreMembers : ℕ → List (List ℕ) → List (List Member) → Type 0
AreMembers from [] all = all ≡ []
AreMembers from (octets ∷ rows) all = (fields : RowFields) × IsRow octets fields
    × (others : List (List Member)) × (all ≡ members_of_row (from + 1) fields ∷ others)
    × AreMembers (from + 1) rows others

-- one of these is no row
abbrev pub HasNoRow : List (List ℕ) → Type 0
HasNoRow [] = ⊥
HasNoRow (octets ∷ rows) = IsNoRow octets ⊎ HasNoRow rows

-- the members above the rows
abbrev pub head_of : ℕ → ℕ → ℕ → List Member
head_of k from total = (codes "k", whole k) ∷ (codes "from", whole from)
    ∷ (codes "total", whole total) ∷ []

abbrev pub IsPage : RowsAsked → NumberedReply → ℕ → List (List ℕ) → Response → Type 0
IsPage asked answer total rows response = (all : List (List Member))
    × AreMembers asked.from rows all
    × Tells 200 Json (keeps_of asked.is_pinned answer.reply)
    (json_line (page_of (head_of answer.k asked.from total) all)) response

-- rows; or some octets of the node are none
abbrev pub TellsPage : RowsAsked → NumberedReply → ℕ → List (List ℕ) → Response → Type 0
TellsPage asked answer total rows response = IsPage asked answer total rows response
    ⊎ (HasNoRow rows × IsError 503 failed response)

abbrev pub not_yet_words : ℕ → List ℕ
not_yet_words prefix = codes "the node knows " ++ (decimal prefix ++ codes " commands")

abbrev pub TellsReply : RowsAsked → NumberedReply → Reply → Response → Type 0
TellsReply asked answer (Page total rows) response = TellsPage asked answer total rows response
TellsReply asked answer (NotYet prefix) response = IsError 404 (not_yet_words prefix) response
TellsReply asked answer reply response = IsError 503 failed response

-- what is told once the node has answered
abbrev pub TellsRows : RowsAsked → Option NumberedReply → Response → Type 0
TellsRows asked (Some answer) response = TellsReply asked answer answer.reply response
TellsRows asked None response = IsError 503 failed response
