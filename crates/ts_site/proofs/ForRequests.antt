-- What the node is asked is for the request that waits, whatever is called.
use Rattle.std.proofs.Common.{◌≡◌, ◌∙◌, ℕ, sym, ap, subst, List, [], ◌∷◌, Option, Some, None, unwrap_or, inl, inr}
use Rattle.ts_http.specs.Moves.{request_at, request_in}
use Rattle.ts_http.specs.declared.request.Request.{Request}
use Rattle.ts_wire.specs.declared.frame.Frame.{Frame}
use Rattle.ts_api.specs.declared.scene.Scene.{Scene}
use Rattle.ts_site.specs.Account.{Call, Calls, Came, Given, IsAsked, IsBegun, AsksForIts}
use Rattle.ts_site.specs.Account.{Left, Makes, Taken}
use Rattle.ts_site.specs.Faces.{Follows, IsGiven, State, Takes, TakesOne}
use Rattle.ts_site.specs.Requests.{Begins, GoesOn}
use Rattle.ts_site.specs.declared.face.Asking.{Asking}
use Rattle.ts_site.specs.declared.next.Next.{Next}
use Rattle.ts_site.specs.declared.next.Next.TheVariants.{Tell, Ask}

abbrev NoneAt : Option Asking → Type 0
NoneAt None = Unit {0}
NoneAt (Some asking) = ⊥

-- nothing is asked
nothing : (s : State) → s.1 ≡ None → AsksForIts s
nothing s none asking is = absurd (subst NoneAt (sym none ∙ is) tt)

-- nothing else is asked, and the same request waits
same : (s t : State) → t.1 ≡ s.1 → request_in t.0 ≡ request_in s.0 → AsksForIts s → AsksForIts t
same s t asks waits for_its_request asking is =
    let o = for_its_request asking (sym asks ∙ is) in (o.0, waits ∙ o.1, o.2)

-- this is asked for the request that waits
asked : (s t : State) (r : Request) (asking : Asking) → t.0 ≡ s.0 → t.1 ≡ Some asking
    → request_in s.0 ≡ Some r → IsAsked r asking → AsksForIts t
asked s t r asking stays asks waits is other e = (
  r,
  ap request_in stays ∙ waits,
  subst (λ (a : Asking). IsAsked r a)
      (ap (λ (o : Option Asking). unwrap_or o asking) (sym asks ∙ e)) is,
)

-- ---- before the node is asked

first : (scene : Scene) (now : ℕ) (s t : State) (r : Request) (next : Next) → s.1 ≡ None
    → request_in s.0 ≡ Some r → Begins scene r next → Follows now next s t → AsksForIts t
first scene now s t r (Tell response) none waits begins follows = nothing t (follows.1 ∙ none)
first scene now s t r (Ask pending octets) none waits begins follows =
    asked s t r (record { pending = pending; frame = octets }) follows.0 follows.1 waits ([], (scene, begins))

takes_one : (scene : Scene) (now : ℕ) (s t : State) → TakesOne scene now s t → AsksForIts t
takes_one scene now s t (none, inl read) = nothing t read.1
takes_one scene now s t (none, inr (inl wrong)) = nothing t (wrong.4.1 ∙ none)
takes_one scene now s t (none, inr (inr begun)) = first scene now s t begun.0 begun.2 none begun.1 begun.3 begun.4

takes : (scene : Scene) (now : ℕ) (s : State) (mids : List State) (t : State) → Takes scene now s mids t → AsksForIts s
    → AsksForIts t
takes scene now s [] t is for_its_request = subst AsksForIts is for_its_request
takes scene now s (mid ∷ mids) t is for_its_request = takes_one scene now mid t is.1

-- ---- once it has answered

behind : (now : ℕ) (s t : State) (frame : Frame) (r : Request) (old : Asking) (next : Next)
    → request_in s.0 ≡ Some r → IsAsked r old → GoesOn old.pending.waits frame next
    → Follows now next (s.0, None) t → AsksForIts t
behind now s t frame r old (Tell response) waits is goes follows = nothing t follows.1
behind now s t frame r old (Ask pending octets) waits is goes follows =
    asked s t r (record { pending = pending; frame = octets }) follows.0 follows.1 waits
    (frame ∷ is.0, (old, is.1, goes))

given : (now : ℕ) (s t : State) (frame : Frame) → IsGiven now s frame t → AsksForIts s → AsksForIts t
given now s t frame is for_its_request =
    let o = for_its_request is.0 is.1 in
    behind now s t frame o.0 is.0 is.2 o.1 o.2 is.3 is.4

-- ---- all calls

makes : (call : Call) (s t : State) → Makes s call t → AsksForIts s → AsksForIts t
makes (Came piece) s t is for_its_request = same s t is.1 (ap request_at is.0.stage_is) for_its_request
makes (Taken scene now) s t is for_its_request = takes scene now s is.0 t is.1 for_its_request
makes (Given frame now) s t is for_its_request = given now s t frame is for_its_request
makes (Left count) s t is for_its_request = same s t is.1 (ap request_at is.0.stage_is) for_its_request

calls_owe : (s t : State) (calls : List Call) → AsksForIts s → Calls s calls t → AsksForIts t
calls_owe s t [] for_its_request is = subst AsksForIts is for_its_request
calls_owe s t (call ∷ calls) for_its_request is = calls_owe is.0 t calls (makes call s is.0 is.1 for_its_request) is.2

pub for_its_request : (s t : State) (calls : List Call) → IsBegun s → Calls s calls t → AsksForIts t
for_its_request s t calls begun is = calls_owe s t calls (nothing s begun.1) is
