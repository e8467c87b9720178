-- Where a verdict is asked, it is the question that the request says.
use Rattle.std.proofs.Common.{◌≡◌, ◌∙◌, inl, inr, sym, ap, subst, ℕ, ℤ, Bool, true, false, List, [], ◌∷◌, Option, Some, None, Result, Ok, Err, unwrap_or, refl}
use Rattle.ts_http.specs.declared.request.Request.{Request}
use Rattle.ts_form.specs.declared.rows.RowsWanted.{RowsWanted}
use Rattle.ts_form.specs.declared.fault.FormFault.{FormFault}
use Rattle.ts_form.specs.declared.pair.Pair.{Pair}
use Rattle.ts_question.specs.Question.{StoreQuestion}
use Rattle.ts_question.specs.Reply.{NumberedReply}
use Rattle.ts_question.specs.declared.reply.Reply.{Reply}
use Rattle.ts_question.specs.declared.reply.Reply.TheVariants as replies
use Rattle.std.specs.Global.{Vec}
use Rattle.ts_wire.specs.Frames.{frame_encoding}
use Rattle.ts_wire.specs.declared.frame.Frame.{Frame}
use Rattle.ts_wire.specs.declared.frame.Frame.TheVariants as frames
use Rattle.ts_api.specs.Asking.{IsAskedBy}
use Rattle.ts_api.specs.Request.{route_in}
use Rattle.ts_api.specs.Routes.{method_of}
use Rattle.ts_api.specs.declared.asking.AskedQuestion.{AskedQuestion}
use Rattle.ts_api.specs.declared.asking.NoQuestion.{NoQuestion}
use Rattle.ts_api.specs.declared.route.Method.{Method}
use Rattle.ts_api.specs.declared.route.Method.TheVariants as methods
use Rattle.ts_api.specs.declared.route.Route.{Route}
use Rattle.ts_api.specs.declared.route.Route.TheVariants as routes
use Rattle.ts_api.specs.declared.scene.Scene.{Scene}
use Rattle.ts_site.specs.Account.{IsAsked, IsAskedBehind}
use Rattle.ts_site.specs.Explaining.{ConcludesBy, EndsBy, EndsFirst, GoesOnRows, TakesReply, TakesRows}
use Rattle.ts_site.specs.Explaining.{TellsEnd, TellsUnless, chain_asked, explains, nothing_in}
use Rattle.ts_site.specs.Frames.{prefix_in, reply_in}
use Rattle.ts_site.specs.Listings.{AsksRows}
use Rattle.ts_site.specs.Requests.{BeginsAt, BeginsBy, BeginsCommands, GoesOn, is_shown, wants_other}
use Rattle.ts_site.specs.Statuses.{AsksOutcome, EndsPrefix}
use Rattle.ts_site.specs.Verdicts.{AsksQuestion}
use Rattle.ts_site.specs.declared.explaining.Explaining.{Explaining}
use Rattle.ts_site.specs.declared.face.Asking.{Asking}
use Rattle.ts_site.specs.declared.next.Next.TheVariants.{Ask}
use Rattle.ts_site.specs.declared.next.Waits.{Waits}
use Rattle.ts_site.specs.declared.next.Waits.TheVariants as waits

-- the question and the route, where a verdict is asked
abbrev verdict_of : Waits → Option (AskedQuestion × Route)
verdict_of (waits.Verdict asked route) = Some (asked, route)
verdict_of other = None

abbrev NoneAt : Option (AskedQuestion × Route) → Type 0
NoneAt None = Unit {0}
NoneAt (Some asked) = ⊥

abbrev FalseAt : Bool → Type 0
FalseAt false = Unit {0}
FalseAt true = ⊥

-- the route and the question of a request, and the frame that asks the node for it
abbrev pub IsIts : Route → Request → Asking → AskedQuestion → Route → Type 0
IsIts place r asking asked route = (route ≡ place)
    × ((now : ℤ) × IsAskedBy r.target.items r.body.items now (Ok asked))
    × (asking.frame.items ≡ frame_encoding (frames.Question asked.question))

-- no verdict is asked
no_verdict : (w v : Waits) (asked : AskedQuestion) (route : Route) → w ≡ v → verdict_of v ≡ None
    → w ≡ waits.Verdict asked route → ⊥
no_verdict w v asked route is none e =
    subst NoneAt (sym none ∙ (ap verdict_of (sym is) ∙ ap verdict_of e)) tt

shown : (w : Waits) (asked : AskedQuestion) (route : Route) → is_shown w ≡ true
    → w ≡ waits.Verdict asked route → ⊥
shown w asked route is e = subst FalseAt (sym (ap is_shown e) ∙ is) tt

-- ---- first

from_question : (place : Route) (r : Request) (now : ℤ) (asking : Asking) (found : Result AskedQuestion NoQuestion)
    (asked : AskedQuestion) (route : Route) → IsAskedBy r.target.items r.body.items now found
    → AsksQuestion place found (Ask asking.pending asking.frame)
    → asking.pending.waits ≡ waits.Verdict asked route → IsIts place r asking asked route
from_question place r now asking (Ok q) asked route by asks e =
    let one : (q, place) ≡ (asked, route) = ap (λ (o : Option (AskedQuestion × Route)). unwrap_or o (q, place)) (ap verdict_of (sym asks.1 ∙ e)) in
    let is : q ≡ asked = ap (λ (p : AskedQuestion × Route). p.0) one in (
      sym (ap (λ (p : AskedQuestion × Route). p.1) one),
      (now, subst (λ (a : AskedQuestion). IsAskedBy r.target.items r.body.items now (Ok a)) is by),
      asks.0 ∙ ap (λ (a : AskedQuestion). frame_encoding (frames.Question a.question)) is,
    )
from_question place r now asking (Err why) asked route by asks e = absurd asks

from_rows : (log : Bool) (asking : Asking) (found : Result RowsWanted FormFault)
    (asked : AskedQuestion) (route : Route) → AsksRows log found (Ask asking.pending asking.frame)
    → asking.pending.waits ≡ waits.Verdict asked route → ⊥
from_rows log asking (Ok wanted) asked route asks e = no_verdict asking.pending.waits _ asked route asks.1 refl e
from_rows log asking (Err fault) asked route asks e = asks

from_outcome : (id : Option (List ℕ)) (asking : Asking) (asked : AskedQuestion) (route : Route)
    → AsksOutcome id (Ask asking.pending asking.frame)
    → asking.pending.waits ≡ waits.Verdict asked route → ⊥
from_outcome (Some id) asking asked route asks e = no_verdict asking.pending.waits _ asked route asks.1 refl e
from_outcome None asking asked route asks e = asks

from_commands : (method : Method) (s : Scene) (r : Request) (asking : Asking) (asked : AskedQuestion)
    (route : Route) → BeginsCommands method s r (Ask asking.pending asking.frame)
    → asking.pending.waits ≡ waits.Verdict asked route → ⊥
from_commands methods.Post s r asking asked route begins e = no_verdict asking.pending.waits _ asked route begins.5 refl e
from_commands methods.Get s r asking asked route begins e = from_outcome begins.0 asking asked route begins.2 e
from_commands methods.Other s r asking asked route begins e = from_outcome begins.0 asking asked route begins.2 e

from_route : (place : Route) (s : Scene) (r : Request) (asking : Asking) (asked : AskedQuestion)
    (route : Route) → BeginsAt place s r (Ask asking.pending asking.frame)
    → asking.pending.waits ≡ waits.Verdict asked route → IsIts place r asking asked route
from_route routes.Verify s r asking asked route begins e = from_question routes.Verify r s.now asking begins.0 asked route begins.1 begins.2 e
from_route routes.Check s r asking asked route begins e = from_question routes.Check r s.now asking begins.0 asked route begins.1 begins.2 e
from_route routes.Explain s r asking asked route begins e = from_question routes.Explain r s.now asking begins.0 asked route begins.1 begins.2 e
from_route routes.Store s r asking asked route begins e = absurd (from_rows false asking begins.0 asked route begins.2 e)
from_route routes.Log s r asking asked route begins e = absurd (from_rows true asking begins.0 asked route begins.2 e)
from_route routes.Commands s r asking asked route begins e = absurd (from_commands (method_of r.method.items) s r asking asked route begins e)
from_route routes.Status s r asking asked route begins e = absurd (no_verdict asking.pending.waits _ asked route begins.1 refl e)
from_route routes.Health s r asking asked route begins e = absurd (no_verdict asking.pending.waits _ asked route begins.1 refl e)
from_route routes.None s r asking asked route begins e = absurd begins
from_route routes.Home s r asking asked route begins e = absurd (shown asking.pending.waits asked route begins e)
from_route routes.Style s r asking asked route begins e = absurd (shown asking.pending.waits asked route begins e)
from_route routes.Script s r asking asked route begins e = absurd (shown asking.pending.waits asked route begins e)
from_route routes.Form s r asking asked route begins e = absurd (no_verdict asking.pending.waits _ asked route begins.4.1 refl e)
from_route routes.Metrics s r asking asked route begins e = absurd (shown asking.pending.waits asked route begins e)

from_method : (other : Bool) (place : Route) (s : Scene) (r : Request) (asking : Asking)
    (asked : AskedQuestion) (route : Route) → BeginsBy other place s r (Ask asking.pending asking.frame)
    → asking.pending.waits ≡ waits.Verdict asked route → IsIts place r asking asked route
from_method true place s r asking asked route begins e = absurd begins
from_method false place s r asking asked route begins e = from_route place s r asking asked route begins e

-- ---- then

none_behind_prefix : (prefix : Option ℕ) (asking : Asking) (asked : AskedQuestion) (route : Route)
    → EndsPrefix prefix (Ask asking.pending asking.frame)
    → asking.pending.waits ≡ waits.Verdict asked route → ⊥
none_behind_prefix (Some prefix) asking asked route ends e = no_verdict asking.pending.waits _ asked route ends.1 refl e
none_behind_prefix None asking asked route ends e = ends

-- what is told in the end is nothing that is asked
none_told : (a : AskedQuestion) (answer : Option NumberedReply) (form : Option (Vec Pair))
    (asking : Asking) → TellsEnd a answer form (Ask asking.pending asking.frame) → ⊥
none_told a answer None asking tells = tells
none_told a answer (Some pairs) asking tells = tells

none_unless : (a : AskedQuestion) (answer : NumberedReply) (form : Option (Vec Pair))
    (nothing : Option NumberedReply) (asking : Asking) (asked : AskedQuestion) (route : Route)
    → TellsUnless a answer form nothing (Ask asking.pending asking.frame)
    → asking.pending.waits ≡ waits.Verdict asked route → ⊥
none_unless a answer form (Some nothing) asking asked route goes e = no_verdict asking.pending.waits _ asked route goes.1 refl e
none_unless a answer form None asking asked route goes e = none_told a (Some answer) form asking goes

none_first : (a : AskedQuestion) (form : Option (Vec Pair)) (answer : Option NumberedReply)
    (asking : Asking) (asked : AskedQuestion) (route : Route)
    → EndsFirst a form answer (Ask asking.pending asking.frame)
    → asking.pending.waits ≡ waits.Verdict asked route → ⊥
none_first a form (Some answer) asking asked route goes e = none_unless a answer form (nothing_in answer) asking asked route goes e
none_first a form None asking asked route goes e = none_told a None form asking goes

none_by : (explains : Bool) (a : AskedQuestion) (r : Route) (answer : Option NumberedReply)
    (asking : Asking) (asked : AskedQuestion) (route : Route)
    → EndsBy explains a r answer (Ask asking.pending asking.frame)
    → asking.pending.waits ≡ waits.Verdict asked route → ⊥
none_by true a r answer asking asked route goes e = none_first a None answer asking asked route goes e
none_by false a r answer asking asked route goes e = goes

none_concluded : (x : Explaining) (question : Option StoreQuestion) (asking : Asking)
    (asked : AskedQuestion) (route : Route) → ConcludesBy x question (Ask asking.pending asking.frame)
    → asking.pending.waits ≡ waits.Verdict asked route → ⊥
none_concluded x (Some question) asking asked route goes e = no_verdict asking.pending.waits _ asked route goes.1 refl e
none_concluded x None asking asked route goes e = none_told x.asked (Some x.answer) x.form asking goes

none_at_rows : (x : Explaining) (total : ℕ) (rows : List (List ℕ)) (asking : Asking)
    (asked : AskedQuestion) (route : Route) → TakesRows x total rows (Ask asking.pending asking.frame)
    → asking.pending.waits ≡ waits.Verdict asked route → ⊥
none_at_rows x total rows asking asked route takes e =
    elim takes.comes [
      | inl ends ↦ none_concluded x (chain_asked x takes.found) asking asked route ends.1 e
      | inr more ↦ no_verdict asking.pending.waits _ asked route more.1.1 refl e
    ]

none_at : (x : Explaining) (reply : Reply) (asking : Asking) (asked : AskedQuestion) (route : Route)
    → TakesReply x reply (Ask asking.pending asking.frame)
    → asking.pending.waits ≡ waits.Verdict asked route → ⊥
none_at x (replies.Page total rows) asking asked route goes e = none_at_rows x total rows asking asked route goes e
none_at x (replies.Valid anchor policies) asking asked route goes e = none_told x.asked None x.form asking goes
none_at x (replies.Invalid position reason) asking asked route goes e = none_told x.asked None x.form asking goes
none_at x (replies.Found anchor places policies) asking asked route goes e = none_told x.asked None x.form asking goes
none_at x replies.NoPath asking asked route goes e = none_told x.asked None x.form asking goes
none_at x replies.SearchLimit asking asked route goes e = none_told x.asked None x.form asking goes
none_at x (replies.NotYet prefix) asking asked route goes e = none_told x.asked None x.form asking goes
none_at x (replies.Malformed index fault place) asking asked route goes e = none_told x.asked None x.form asking goes
none_at x replies.NoAnchor asking asked route goes e = none_told x.asked None x.form asking goes
none_at x replies.Limit asking asked route goes e = none_told x.asked None x.form asking goes

none_in_rows : (x : Explaining) (answer : Option NumberedReply) (asking : Asking)
    (asked : AskedQuestion) (route : Route) → GoesOnRows x answer (Ask asking.pending asking.frame)
    → asking.pending.waits ≡ waits.Verdict asked route → ⊥
none_in_rows x (Some answer) asking asked route goes e = none_at x answer.reply asking asked route goes e
none_in_rows x None asking asked route goes e = none_told x.asked None x.form asking goes

none_behind : (w : Waits) (frame : Frame) (asking : Asking) (asked : AskedQuestion) (route : Route)
    → GoesOn w frame (Ask asking.pending asking.frame)
    → asking.pending.waits ≡ waits.Verdict asked route → ⊥
none_behind (waits.Verdict a r) frame asking asked route goes e = none_by (explains r) a r (reply_in frame) asking asked route goes e
none_behind (waits.Rows a) frame asking asked route goes e = goes
none_behind waits.Health frame asking asked route goes e = goes
none_behind waits.Prefix frame asking asked route goes e = none_behind_prefix (prefix_in frame) asking asked route goes e
none_behind (waits.Identity prefix) frame asking asked route goes e = goes
none_behind (waits.Command id) frame asking asked route goes e = goes
none_behind (waits.Home a) frame asking asked route goes e = shown asking.pending.waits asked route goes e
none_behind (waits.HomeRows a prefix) frame asking asked route goes e = shown asking.pending.waits asked route goes e
none_behind (waits.Form a pairs) frame asking asked route goes e = none_first a (Some pairs) (reply_in frame) asking asked route goes e
none_behind (waits.Anchors x) frame asking asked route goes e = none_in_rows x (reply_in frame) asking asked route goes e
none_behind (waits.Chain a form) frame asking asked route goes e = none_told a (reply_in frame) form asking goes
none_behind waits.Metrics frame asking asked route goes e = shown asking.pending.waits asked route goes e
none_behind (waits.Gauge gauging) frame asking asked route goes e = shown asking.pending.waits asked route goes e

from_frames : (answers : List Frame) (r : Request) (asking : Asking) (asked : AskedQuestion) (route : Route)
    → IsAskedBehind answers r asking → asking.pending.waits ≡ waits.Verdict asked route
    → IsIts (route_in r.target.items) r asking asked route
from_frames [] r asking asked route is e =
    from_method (wants_other (route_in r.target.items) (method_of r.method.items)) (route_in r.target.items) is.0 r asking asked route is.1 e
from_frames (frame ∷ answers) r asking asked route is e = absurd (none_behind is.0.pending.waits frame asking asked route is.2 e)

pub question_is : (r : Request) (asking : Asking) (asked : AskedQuestion) (route : Route)
    → IsAsked r asking → asking.pending.waits ≡ waits.Verdict asked route
    → IsIts (route_in r.target.items) r asking asked route
question_is r asking asked route is e = from_frames is.0 r asking asked route is.1 e
