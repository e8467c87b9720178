-- What is answered on a connection, over every list of calls.
use Rattle.std.specs.Prelude.{◌≡◌, ℕ, List, [], ◌∷◌, Some, None, take}
use Rattle.ts_http.specs.Moves.{HasCome, HasLeft, IsNew, request_in}
use Rattle.ts_http.specs.declared.request.Request.{Request}
use Rattle.ts_wire.specs.declared.frame.Frame.{Frame}
use Rattle.ts_api.specs.declared.scene.Scene.{Scene}
use Rattle.ts_site.specs.Faces.{IsGiven, State, Takes}
use Rattle.ts_site.specs.Requests.{Begins, GoesOn}
use Rattle.ts_site.specs.declared.face.Asking.{Asking}
use Rattle.ts_site.specs.declared.next.Next.TheVariants.{Ask}

-- ---- calls, some of them at a moment of the node's clock

pub data Call : Type 0 where
  Came : List ℕ → Call
  Taken : Scene → ℕ → Call
  Given : Frame → ℕ → Call
  Left : ℕ → Call

abbrev pub Makes : State → Call → State → Type 0
Makes s (Came piece) t = HasCome s.0 t.0 piece × (t.1 ≡ s.1)
Makes s (Taken scene now) t = (mids : List State) × Takes scene now s mids t
Makes s (Given frame now) t = IsGiven now s frame t
Makes s (Left count) t = HasLeft s.0 t.0 (take count s.0.out) × (t.1 ≡ s.1)

-- one after another
abbrev pub Calls : State → List Call → State → Type 0
Calls s [] t = s ≡ t
Calls s (call ∷ calls) t = (mid : State) × Makes s call mid × Calls mid calls t

-- nothing has come, and nothing is asked
abbrev pub IsBegun : State → Type 0
IsBegun s = IsNew s.0 × (s.1 ≡ None)

-- ---- what the node is asked

-- what the node is asked for a request after it gave these answers, the latest first
abbrev pub IsAskedBehind : List Frame → Request → Asking → Type 0
IsAskedBehind [] r asking = (scene : Scene) × Begins scene r (Ask asking.pending asking.frame)
IsAskedBehind (frame ∷ frames) r asking = (old : Asking) × IsAskedBehind frames r old
    × GoesOn old.pending.waits frame (Ask asking.pending asking.frame)

abbrev pub IsAsked : Request → Asking → Type 0
IsAsked r asking = (frames : List Frame) × IsAskedBehind frames r asking

-- what the node is asked, it is asked for the request that waits
abbrev pub AsksForIts : State → Type 0
AsksForIts s = (asking : Asking) → s.1 ≡ Some asking
    → (r : Request) × (request_in s.0 ≡ Some r) × IsAsked r asking
