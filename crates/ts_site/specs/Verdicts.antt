-- Questions over HTTP at /v1/verify and /v1/check, and what is answered.
use Rattle.std.specs.Prelude.{◌&&◌, ℕ, ℤ, Bool, true, List, Option, Some, None}
use Rattle.std.specs.Prelude.{Result, Ok, Err, if◌then◌else◌}
use Rattle.ts_json.specs.Answer.{answer_in}
use Rattle.ts_json.specs.declared.answer.AnswerFields.{AnswerFields}
use Rattle.ts_question.specs.Reply.{NumberedReply}
use Rattle.ts_question.specs.declared.reply.Reply.{Reply}
use Rattle.ts_render.specs.Fields.{AreFields}
use Rattle.ts_render.specs.Replies.{is_final, valid_in}
use Rattle.ts_wire.specs.declared.frame.Frame.TheVariants.{Question}
use Rattle.ts_api.specs.Asking.{IsAskedBy}
use Rattle.ts_api.specs.Response.{IsError, Tells, json_line}
use Rattle.ts_api.specs.Words.{no_question_words}
use Rattle.ts_api.specs.declared.asking.AskedQuestion.{AskedQuestion}
use Rattle.ts_api.specs.declared.asking.NoQuestion.{NoQuestion}
use Rattle.ts_api.specs.declared.response.Content.TheVariants.{Json}
use Rattle.ts_api.specs.declared.response.Keeps.{Keeps}
use Rattle.ts_api.specs.declared.response.Keeps.TheVariants.{Never, Always}
use Rattle.ts_api.specs.declared.response.Response.{Response}
use Rattle.ts_api.specs.declared.route.Route.{Route}
use Rattle.ts_api.specs.declared.route.Route.TheVariants as routes
use Rattle.ts_site.specs.Steps.{Answers, AsksNode, failed}
use Rattle.ts_site.specs.declared.next.Next.{Next}
use Rattle.ts_site.specs.declared.next.Waits.TheVariants as waits

-- the node is asked the question; or it is said why there is none
abbrev pub AsksQuestion : Route → Result AskedQuestion NoQuestion → Next → Type 0
AsksQuestion route (Ok asked) next =
    AsksNode (Question asked.question) (waits.Verdict asked route) next
AsksQuestion route (Err why) next = Answers (IsError 400 (no_question_words why)) next

-- what a request with this target and this body comes to at this moment: its own question
abbrev pub BeginsVerdict : Route → List ℕ → List ℕ → ℤ → Next → Type 0
BeginsVerdict route target body now next = (asked : Result AskedQuestion NoQuestion)
    × IsAskedBy target body now asked × AsksQuestion route asked next

-- at /v1/check only a valid chain is 200; everywhere else each answer is
abbrev pub verdict_status : Route → Option Bool → ℕ
verdict_status routes.Check (Some true) = 200
verdict_status routes.Check valid = 403
verdict_status route valid = 200

-- the answer to a question that names its moment and its position is kept for ever, once it is one
abbrev pub keeps_of : Bool → Reply → Keeps
keeps_of pinned reply = if pinned && is_final reply then Always else Never

-- the fields of this very answer to this very question, as a line of JSON
abbrev pub IsVerdict : AskedQuestion → Route → NumberedReply → Response → Type 0
IsVerdict asked route answer response = (fields : AnswerFields)
    × AreFields asked.question answer asked.id fields
    × Tells (verdict_status route (valid_in answer.reply)) Json
    (keeps_of asked.is_pinned answer.reply) (json_line (answer_in fields)) response

-- what is told once the node has answered
abbrev pub TellsVerdict : AskedQuestion → Route → Option NumberedReply → Response → Type 0
TellsVerdict asked route (Some answer) response = IsVerdict asked route answer response
TellsVerdict asked route None response = IsError 503 failed response
