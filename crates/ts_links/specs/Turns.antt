-- Moves on all connections, and the turns of what takes their requests.
use Rattle.std.specs.Prelude.{◌≡◌, ◌⊎◌, ◌++◌, ◌∷◌, [], ℕ, List, Result, Ok, Err, Some}
use Rattle.std.specs.Prelude.{drop, slice_get, All}
use Rattle.std.specs.declared.alloc.AllocError.{AllocError}
use Rattle.ts_wire.specs.declared.fault.FrameFault.{FrameFault}
use Rattle.ts_wire.specs.declared.frame.Frame.{Frame}
use Rattle.ts_links.specs.declared.link.Link.{Link}
use Rattle.ts_links.specs.declared.link.Stage.TheVariants as stages
use Rattle.ts_links.specs.declared.link.TakeResult.{TakeResult}
use Rattle.ts_links.specs.declared.link.TakeResult.TheVariants as takes
use Rattle.ts_links.specs.Times.{times_took}
use Rattle.ts_links.specs.Moves.{Took, Refused, HasTaken, HasRefused, IsWaiting, IsUnused}
use Rattle.ts_links.specs.Events.{AnsweredRequest, Event, event, Change, Changes, requests_taken}

-- a request of so many octets was let go, and octets were put
abbrev pub KeepGives : Link → ℕ → List ℕ → ℕ → Result TakeResult AllocError → Link → Type 0
KeepGives a size octets now (Ok what) b = (what ≡ takes.Request) × (b ≡ record a {
  held = drop size a.held;
  waits = a.waits ++ octets;
  times = times_took a.waits a.times now;
})
KeepGives a size octets now (Err refused) b = b ≡ record a {
  held = drop size a.held;
  times = times_took a.waits a.times now;
  stage = stages.Closed;
}

-- a fault was answered; or nothing was done, or its answer is lost
abbrev pub RefuseGives : Link → FrameFault → ℕ → Result TakeResult AllocError → Link → Type 0
RefuseGives a fault now (Ok what) b =
    (what ≡ takes.Fault) × HasRefused a b fault now × (b.stage ≡ stages.Refused)
RefuseGives a fault now (Err refused) b = (b ≡ a) ⊎ HasRefused a b fault now

module _ {S : Type 0} (turn : S → Frame → List Frame → S → Type 0) where
  -- ---- one connection

  pub record OneTook (s : S) (a : Link) (now : ℕ) (t : S) (b : Link) : Type 0 where
    pub request : Frame
    pub answers : List Frame
    pub turned : turn s request answers t
    pub moved : HasTaken a b request answers now

  pub record OneRefused (s : S) (a : Link) (now : ℕ) (t : S) (b : Link) : Type 0 where
    pub fault : FrameFault
    pub same : t ≡ s
    pub moved : HasRefused a b fault now

  -- A connection's turn: a request was taken, and its answers wait; or a fault was answered; or
  -- nothing could be taken. Where memory is refused, nothing was done, or the answer is lost.
  abbrev pub TurnGives : S → Link → ℕ → Result TakeResult AllocError → S → Link → Type 0
  TurnGives s a now (Ok takes.Request) t b = OneTook s a now t b × (b.stage ≡ stages.Open)
  TurnGives s a now (Ok takes.Fault) t b = OneRefused s a now t b × (b.stage ≡ stages.Refused)
  TurnGives s a now (Ok takes.Nothing) t b = (t ≡ s) × (b ≡ a) × IsWaiting a
  TurnGives s a now (Err refused) t b = ((t ≡ s) × (b ≡ a)) ⊎ OneTook s a now t b
      ⊎ OneRefused s a now t b

  -- ---- all connections

  pub record Took1 (s : S) (links : List Link) (slot now : ℕ) (t : S) (others : List Link)
      : Type 0 where
    pub request : Frame
    pub answers : List Frame
    pub turned : turn s request answers t
    pub change : Change links (event slot now (Took request answers)) others

  pub record Refused1 (s : S) (links : List Link) (slot now : ℕ) (t : S) (others : List Link)
      : Type 0 where
    pub fault : FrameFault
    pub same : t ≡ s
    pub change : Change links (event slot now (Refused fault)) others

  -- the same of the connection of a slot; a slot that is not there has nothing to take
  abbrev pub Gives : S → List Link → ℕ → ℕ → Result TakeResult AllocError → S → List Link → Type 0
  Gives s links slot now (Ok takes.Request) t others =
      (took : Took1 s links slot now t others) × (took.change.after.stage ≡ stages.Open)
  Gives s links slot now (Ok takes.Fault) t others =
      (one : Refused1 s links slot now t others) × (one.change.after.stage ≡ stages.Refused)
  Gives s links slot now (Ok takes.Nothing) t others = (t ≡ s) × (others ≡ links)
      × ((link : Link) → slice_get links slot ≡ Some link → IsWaiting link)
  Gives s links slot now (Err refused) t others = ((t ≡ s) × (others ≡ links))
      ⊎ Took1 s links slot now t others ⊎ Refused1 s links slot now t others

-- What takes requests, and how it tries to keep what came of them.
module _ {S : Type 0} (turn : S → Frame → List Frame → S → Type 0) (keeps : S → S → Type 0) where
  -- it tried to keep what was there, on the way to each of these states
  abbrev pub KeepsSome : List S → S → S → Type 0
  KeepsSome [] s t = t ≡ s
  KeepsSome (mid ∷ mids) s t = keeps s mid × KeepsSome mids mid t

  -- Requests are answered by turns, one after another. Before each of them, and after the last, it
  -- may have tried to keep what was there.
  abbrev pub RunsAndKeeps : S → List AnsweredRequest → S → Type 0
  RunsAndKeeps s [] t = (mids : List S) × KeepsSome mids s t
  RunsAndKeeps s (pair ∷ pairs) t = (mids : List S) × (a b : S) × KeepsSome mids s a
      × turn a pair.0 pair.1 b × RunsAndKeeps b pairs t

  -- some moves lead from these connections to those, and the requests that they take are answered
  -- by turns, one after another
  pub record IsReached (s : S) (links : List Link) (t : S) (others : List Link) : Type 0 where
    pub events : List Event
    pub changes : Changes links events others
    pub run : RunsAndKeeps s (requests_taken events) t

  -- the same from connections of which none was open
  pub record IsServed (s t : S) : Type 0 where
    pub links : List Link
    pub others : List Link
    pub unused : All IsUnused links
    pub reached : IsReached s links t others
