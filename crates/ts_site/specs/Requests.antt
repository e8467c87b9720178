-- What a request comes to: first, and once the node has answered. What pages for a browser and the
-- metrics show is left open.
use Rattle.std.specs.Prelude.{◌≡◌, Bool, true, false, not, [], ◌∷◌, ◌++◌, Some, codes}
use Rattle.std.specs.Prelude.{map}
use Rattle.ts_http.specs.Request.{field_in}
use Rattle.ts_http.specs.declared.request.Request.{Request}
use Rattle.ts_wire.specs.declared.frame.Frame.{Frame}
use Rattle.ts_wire.specs.declared.frame.Frame.TheVariants.{Status}
use Rattle.ts_api.specs.Request.{bearer_in, route_in}
use Rattle.ts_api.specs.Response.{IsLine}
use Rattle.ts_api.specs.Routes.{method_of, methods_of, takes}
use Rattle.ts_api.specs.declared.response.Content.TheVariants.{Text}
use Rattle.ts_api.specs.declared.response.Keeps.TheVariants.{Never}
use Rattle.ts_api.specs.declared.response.Response.{Response}
use Rattle.ts_api.specs.declared.route.Method.{Method}
use Rattle.ts_api.specs.declared.route.Method.TheVariants.{Post}
use Rattle.ts_api.specs.declared.route.Route.{Route}
use Rattle.ts_api.specs.declared.route.Route.TheVariants as routes
use Rattle.ts_api.specs.declared.scene.Scene.{Scene}
use Rattle.ts_site.specs.Commanding.{BeginsCommand}
use Rattle.ts_site.specs.Explaining.{BeginsForm, EndsForm, EndsVerdict, GoesOnRows, TellsEnd}
use Rattle.ts_site.specs.Frames.{prefix_in, reply_in}
use Rattle.ts_site.specs.Listings.{BeginsRows, TellsRows}
use Rattle.ts_site.specs.Statuses.{BeginsOutcome, EndsPrefix, TellsCommand, TellsHealth}
use Rattle.ts_site.specs.Statuses.{TellsStatus}
use Rattle.ts_site.specs.Steps.{Answers, AsksNode}
use Rattle.ts_site.specs.Verdicts.{BeginsVerdict}
use Rattle.ts_site.specs.declared.next.Next.{Next}
use Rattle.ts_site.specs.declared.next.Next.TheVariants.{Tell, Ask}
use Rattle.ts_site.specs.declared.next.Waits.{Waits}
use Rattle.ts_site.specs.declared.next.Waits.TheVariants as waits

-- ---- pages and metrics

-- what is known belongs to a page or to the metrics
abbrev pub is_shown : Waits → Bool
is_shown (waits.Home asked) = true
is_shown (waits.HomeRows asked prefix) = true
is_shown waits.Metrics = true
is_shown (waits.Gauge gauging) = true
is_shown other = false

-- they are shown, or the node is asked more for them
abbrev pub Shows : Next → Type 0
Shows (Tell response) = Unit {0}
Shows (Ask pending octets) = is_shown pending.waits ≡ true

-- ---- first

-- a path that there is takes another method
abbrev pub wants_other : Route → Method → Bool
wants_other routes.None method = false
wants_other route method = not (takes (methods_of route) method)

-- which methods it takes (RFC 9110 15.5.6)
pub record IsNotAllowed (route : Route) (r : Response) : Type 0 where
  pub status_is : r.status ≡ 405
  pub content_is : r.content ≡ Text
  pub allow_is : r.allow ≡ Some (methods_of route)
  pub body_is : r.body.items ≡ codes "this path takes another method" ++ 10 ∷ []
  pub keeps_is : r.keeps ≡ Never

-- a command that is sent, or asked for
abbrev pub BeginsCommands : Method → Scene → Request → Next → Type 0
BeginsCommands Post s r next = BeginsCommand s.commands s.node s.keys.now
    (bearer_in (map field_in r.fields.items)) r.body.items next
BeginsCommands method s r next = BeginsOutcome r.target.items next

abbrev pub BeginsAt : Route → Scene → Request → Next → Type 0
BeginsAt routes.Verify s r next =
    BeginsVerdict routes.Verify r.target.items r.body.items s.now next
BeginsAt routes.Check s r next = BeginsVerdict routes.Check r.target.items r.body.items s.now next
BeginsAt routes.Explain s r next =
    BeginsVerdict routes.Explain r.target.items r.body.items s.now next
BeginsAt routes.Form s r next = BeginsForm r.body.items s.now next
BeginsAt routes.Store s r next = BeginsRows false r.target.items next
BeginsAt routes.Log s r next = BeginsRows true r.target.items next
BeginsAt routes.Commands s r next = BeginsCommands (method_of r.method.items) s r next
BeginsAt routes.Status s r next = AsksNode Status waits.Prefix next
BeginsAt routes.Health s r next = AsksNode Status waits.Health next
BeginsAt routes.None s r next =
    Answers (IsLine 404 (codes "there is nothing at this path")) next
BeginsAt route s r next = Shows next

abbrev pub BeginsBy : Bool → Route → Scene → Request → Next → Type 0
BeginsBy true route s r next = Answers (IsNotAllowed route) next
BeginsBy false route s r next = BeginsAt route s r next

-- what a request comes to, by what it finds
abbrev pub Begins : Scene → Request → Next → Type 0
Begins s r next = BeginsBy (wants_other (route_in r.target.items) (method_of r.method.items))
    (route_in r.target.items) s r next

-- ---- then

-- what the node's answer comes to
abbrev pub GoesOn : Waits → Frame → Next → Type 0
GoesOn (waits.Verdict asked route) frame next = EndsVerdict asked route (reply_in frame) next
GoesOn (waits.Form asked pairs) frame next = EndsForm asked pairs (reply_in frame) next
GoesOn (waits.Anchors explaining) frame next = GoesOnRows explaining (reply_in frame) next
GoesOn (waits.Chain asked form) frame next = TellsEnd asked (reply_in frame) form next
GoesOn (waits.Rows asked) frame next = Answers (TellsRows asked (reply_in frame)) next
GoesOn waits.Health frame next = Answers (TellsHealth (prefix_in frame)) next
GoesOn waits.Prefix frame next = EndsPrefix (prefix_in frame) next
GoesOn (waits.Identity prefix) frame next = Answers (TellsStatus prefix frame) next
GoesOn (waits.Command id) frame next = Answers (TellsCommand id frame) next
GoesOn other frame next = Shows next
