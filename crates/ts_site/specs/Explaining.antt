-- Why no chain is valid, over HTTP at /v1/explain and on the page of the form: where a search finds
-- none, the node is asked for the trust anchors of its store, and then about the chain that was
-- sent. What the page shows is left open.
use Rattle.std.specs.Prelude.{◌≡◌, ◌≤◌, ◌⊎◌, ◌+◌, ℕ, ℤ, Bool, true, false, List, [], ◌∷◌}
use Rattle.std.specs.Prelude.{Option, Some, None, Ok, Err, length, map}
use Rattle.std.specs.Global.{Vec}
use Rattle.ts_form.specs.Pairs.{AreMany, pair_in, pairs_of}
use Rattle.ts_form.specs.declared.pair.Pair.{Pair}
use Rattle.ts_question.specs.Question.{StoreQuestion}
use Rattle.ts_question.specs.Reply.{NumberedReply}
use Rattle.ts_question.specs.declared.reply.Reply.{Reply}
use Rattle.ts_question.specs.declared.reply.Reply.TheVariants.{NoPath, Page, SearchLimit}
use Rattle.ts_sent.specs.Sent.{IsAnchorRow, IsNearest, chain_under, issuers_of, sent_in}
use Rattle.ts_sent.specs.declared.above.AnchorAbove.{AnchorAbove}
use Rattle.ts_wire.specs.declared.frame.Frame.TheVariants.{Question}
use Rattle.ts_api.specs.Asking.{IsAskedFrom, asked_as}
use Rattle.ts_api.specs.declared.asking.AskedQuestion.{AskedQuestion}
use Rattle.ts_api.specs.declared.asking.NoQuestion.{NoQuestion}
use Rattle.ts_api.specs.declared.route.Route.{Route}
use Rattle.ts_api.specs.declared.route.Route.TheVariants as routes
use Rattle.ts_site.specs.Listings.{rows_question}
use Rattle.ts_site.specs.Steps.{Answers, AsksNode, IsTold}
use Rattle.ts_site.specs.Verdicts.{TellsVerdict}
use Rattle.ts_site.specs.declared.explaining.Explaining.{Explaining}
use Rattle.ts_site.specs.declared.next.Next.{Next}
use Rattle.ts_site.specs.declared.next.Next.TheVariants.{Tell, Ask}
use Rattle.ts_site.specs.declared.next.Waits.TheVariants as waits

-- ---- the question of a form

-- the node is asked it; or there is none, and something is told
abbrev pub BeginsForm : List ℕ → ℤ → Next → Type 0
BeginsForm body now (Ask pending octets) = (asked : AskedQuestion) × (pairs : Vec Pair)
    × (map pair_in pairs.items ≡ pairs_of body) × IsAskedFrom (pairs_of body) now (Ok asked)
    × AsksNode (Question asked.question) (waits.Form asked pairs) (Ask pending octets)
BeginsForm body now (Tell response) = AreMany (pairs_of body)
    ⊎ ((why : NoQuestion) × IsAskedFrom (pairs_of body) now (Err why))

-- ---- what is told in the end

-- to a program the verdict, as JSON; on the page of a form something
abbrev pub TellsEnd : AskedQuestion → Option NumberedReply → Option (Vec Pair) → Next → Type 0
TellsEnd asked answer None next = Answers (TellsVerdict asked routes.Explain answer) next
TellsEnd asked answer (Some pairs) next = IsTold next

-- ---- where a search found nothing

-- the answer of a search that found no valid chain
abbrev pub if_nothing : Reply → NumberedReply → Option NumberedReply
if_nothing NoPath answer = Some answer
if_nothing SearchLimit answer = Some answer
if_nothing other answer = None

abbrev pub nothing_in : NumberedReply → Option NumberedReply
nothing_in answer = if_nothing answer.reply answer

-- the node is asked for the rows of its store behind those that were looked at, after as many
-- commands as the search looked at
abbrev pub AsksForRows : Explaining → Next → Type 0
AsksForRows e next = AsksNode (Question (rows_question false (Some e.answer.k) e.from))
    (waits.Anchors e) next

-- none was looked at yet
abbrev pub BeginsAnew : AskedQuestion → NumberedReply → Option (Vec Pair) → Next → Type 0
BeginsAnew asked answer form next = AsksForRows
    (record { asked = asked; answer = answer; form = form; from = 0; found = None }) next

-- the answer is told, unless it is that of a search that found nothing
abbrev pub TellsUnless : AskedQuestion → NumberedReply → Option (Vec Pair)
    → Option NumberedReply → Next → Type 0
TellsUnless asked answer form (Some nothing) next = BeginsAnew asked nothing form next
TellsUnless asked answer form None next = TellsEnd asked (Some answer) form next

-- what comes once the node has answered the question itself
abbrev pub EndsFirst : AskedQuestion → Option (Vec Pair) → Option NumberedReply → Next → Type 0
EndsFirst asked form (Some answer) next = TellsUnless asked answer form (nothing_in answer) next
EndsFirst asked form None next = TellsEnd asked None form next

abbrev pub EndsForm : AskedQuestion → Vec Pair → Option NumberedReply → Next → Type 0
EndsForm asked pairs answer next = EndsFirst asked (Some pairs) answer next

-- at /v1/explain so, and else what was answered is told
abbrev pub explains : Route → Bool
explains routes.Explain = true
explains other = false

abbrev pub EndsBy : Bool → AskedQuestion → Route → Option NumberedReply → Next → Type 0
EndsBy true asked route answer next = EndsFirst asked None answer next
EndsBy false asked route answer next = Answers (TellsVerdict asked route answer) next

abbrev pub EndsVerdict : AskedQuestion → Route → Option NumberedReply → Next → Type 0
EndsVerdict asked route answer next = EndsBy (explains route) asked route answer next

-- ---- the chain that was sent

-- the question about it, where an anchor is above it, and it is within the limits
abbrev pub chain_asked : Explaining → Option AnchorAbove → Option StoreQuestion
chain_asked e (Some above) = chain_under e.asked.question e.answer.k above
chain_asked e None = None

-- the node is asked it; its answer is the same for ever where that of the search is
abbrev pub AsksChain : Explaining → StoreQuestion → Next → Type 0
AsksChain e question next = AsksNode (Question question)
    (waits.Chain (asked_as question e.asked.is_pinned) e.form) next

-- there is such a question, or the answer of the search is told
abbrev pub ConcludesBy : Explaining → Option StoreQuestion → Next → Type 0
ConcludesBy e (Some question) next = AsksChain e question next
ConcludesBy e None next = TellsEnd e.asked (Some e.answer) e.form next

abbrev pub Concludes : Explaining → Option AnchorAbove → Next → Type 0
Concludes e found next = ConcludesBy e (chain_asked e found) next

-- ---- rows of the store

-- no row behind these is an anchor's: anchors stand before all others
abbrev pub EndsAnchors : List (List ℕ) → Type 0
EndsAnchors [] = Unit {0}
EndsAnchors (row ∷ rows) = IsAnchorRow row → ⊥

-- these are the last rows that count
abbrev pub AreLast : Explaining → ℕ → List (List ℕ) → Type 0
AreLast e total rows = (total ≤ e.from + length rows) ⊎ EndsAnchors rows

-- how many rows have been looked at, where these are not the last
abbrev pub IsPassed : Explaining → ℕ → List (List ℕ) → Option ℕ → Type 0
IsPassed e total rows (Some from) =
    (from ≡ e.from + length rows) × (AreLast e total rows → ⊥)
IsPassed e total rows None = AreLast e total rows

-- the nearest anchor among them and those before: it is the one, or there are more rows
pub record TakesRows (e : Explaining) (total : ℕ) (rows : List (List ℕ)) (next : Next)
    : Type 0 where
  pub found : Option AnchorAbove
  pub is_nearest : IsNearest (issuers_of (sent_in e.asked.question.target)) e.found rows found
  pub comes : (AreLast e total rows × Concludes e found next)
      ⊎ ((AreLast e total rows → ⊥)
      × AsksForRows (record e { from = e.from + length rows; found = found }) next)

abbrev pub TakesReply : Explaining → Reply → Next → Type 0
TakesReply e (Page total rows) next = TakesRows e total rows next
TakesReply e other next = TellsEnd e.asked None e.form next

abbrev pub GoesOnRows : Explaining → Option NumberedReply → Next → Type 0
GoesOnRows e (Some answer) next = TakesReply e answer.reply next
GoesOnRows e None next = TellsEnd e.asked None e.form next
