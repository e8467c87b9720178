-- The reply to a question after commands: a page of what the store holds, or of the commands; else
-- why a part of the question can't be read, or that its anchor is not in the store, or what path
-- validation or the search answers over the tables of the store.
use Rattle.std.specs.Prelude.{◌≡◌, ℕ, suc, min, List, map, Option, Some, None, slice_get}
use Rattle.std.specs.List.{find}
use Rattle.std.specs.Str.{bytes_eq}
use Rattle.ts_shape.specs.Fault.{code_of}
use Rattle.ts_reason.specs.View.{reason_in}
use Rattle.ts_path.specs.Verdict as path
use Rattle.ts_path.specs.declared.verdict.Verdict.{Verdict}
use Rattle.ts_path.specs.declared.verdict.Verdict.TheVariants as verdict
use Rattle.ts_search.specs.Search as search
use Rattle.ts_revoke.specs.Question.{Check}
use Rattle.ts_search.specs.declared.answer.SearchAnswer.{SearchAnswer}
use Rattle.ts_search.specs.declared.answer.SearchAnswer.TheVariants as found
use Rattle.ts_question.specs.Question.{StoreQuestion}
use Rattle.ts_question.specs.declared.terms.Terms.{Terms}
use Rattle.ts_question.specs.declared.question.Target.{Target}
use Rattle.ts_question.specs.declared.question.Target.TheVariants as target
use Rattle.ts_question.specs.declared.reply.Reply.{Reply}
use Rattle.ts_question.specs.declared.reply.Reply.TheVariants.{Valid, Invalid, Found, NoPath}
use Rattle.ts_question.specs.declared.reply.Reply.TheVariants.{SearchLimit, Malformed, NoAnchor}
use Rattle.ts_listing.specs.Listing.{listing}
use Rattle.ts_listing.specs.Log.{log_rows}
use Rattle.ts_listing.specs.Page.{page}
use Rattle.ts_store.specs.Store.{store_after}
use Rattle.ts_store.specs.Tables.{Tables}
use Rattle.ts_command.specs.declared.command.Command.{Command}
use Rattle.ts_store.specs.declared.anchor.TrustAnchor.{TrustAnchor as StoredAnchor}
use Rattle.ts_answer.specs.Asked.{question_of, search_of}
use Rattle.ts_answer.specs.Parts.{Unreadable, first_unreadable}

-- ---- what a verdict is as a reply

-- the reply says this verdict on a chain under the anchor of this id
abbrev pub SaysVerdict : List ℕ → Verdict → Reply → Type 0
SaysVerdict id (verdict.Valid policies) (Valid anchor said) =
    (anchor ≡ id) × (said ≡ map (λ p. p.content.now) policies.items)
SaysVerdict id (verdict.Invalid position reason) (Invalid place said) =
    (place ≡ position) × (said ≡ reason_in reason)
SaysVerdict id verdict other = ⊥

-- The reply says this answer of a search. The anchor is named by its id; places count from 1, the
-- leaf's.
abbrev pub SaysSearch : List StoredAnchor → SearchAnswer → Reply → Type 0
SaysSearch anchors (found.Found number chain policies) (Found anchor places said) =
    (slice_get (map (λ a. a.id) anchors) number ≡ Some anchor) × (places ≡ map suc chain.items)
    × (said ≡ map (λ p. p.content.now) policies.items)
SaysSearch anchors found.NoPath NoPath = Unit {0}
SaysSearch anchors found.SearchLimit SearchLimit = Unit {0}
SaysSearch anchors answer other = ⊥

-- ---- the reply

-- the anchor of this id
abbrev pub with_id : List ℕ → List StoredAnchor → Option StoredAnchor
with_id id anchors = find (λ a. bytes_eq a.id id) anchors

-- the verdict of path validation, if the anchor is in the store
abbrev pub IsChainReply : Check → Tables → Terms → List (List ℕ) → Option StoredAnchor → Reply
    → Type 0
IsChainReply good tables terms certificates None reply = reply ≡ NoAnchor
IsChainReply good tables terms certificates (Some stored) reply =
    (v : Verdict) × path.IsVerdict (question_of good tables terms stored certificates) v
    × SaysVerdict stored.id v reply

abbrev pub IsSearchReply : Check → Tables → Terms → List (List ℕ) → Reply → Type 0
IsSearchReply good tables terms certificates reply =
    (a : SearchAnswer) × search.IsSearchAnswer (search_of good tables terms certificates) a
    × SaysSearch tables.anchors a reply

abbrev pub IsTargetReply : Check → Tables → Terms → Target → Reply → Type 0
IsTargetReply good tables terms (target.Chain anchor certificates) reply =
    IsChainReply good tables terms certificates (with_id anchor tables.anchors) reply
IsTargetReply good tables terms (target.Search certificates) reply =
    IsSearchReply good tables terms certificates reply
IsTargetReply good tables terms other reply = ⊥

-- a place that four octets can't hold is the greatest that they can; no certificate has one
abbrev pub malformed_reply : Unreadable → Reply
malformed_reply u = Malformed u.index (code_of u.fault.kind) (min u.fault.at 4294967295)

abbrev pub IsReplyBy : Check → Tables → StoreQuestion → Option Unreadable → Reply → Type 0
IsReplyBy good tables q (Some u) reply = reply ≡ malformed_reply u
IsReplyBy good tables q None reply = IsTargetReply good tables q.terms q.target reply

-- of a page nothing is read of the question but its target
abbrev pub IsReplyTo : Check → List Command → StoreQuestion → Target → Reply → Type 0
IsReplyTo good commands q (target.Store from) reply =
    reply ≡ page from (listing (store_after commands))
IsReplyTo good commands q (target.Log from) reply = reply ≡ page from (log_rows commands)
IsReplyTo good commands q other reply =
    IsReplyBy good (store_after commands).tables q (first_unreadable q) reply

abbrev pub IsReply : Check → List Command → StoreQuestion → Reply → Type 0
IsReply good commands q reply = IsReplyTo good commands q q.target reply
