-- The steps in which a stream is served: one frame, one piece.
use Rattle.std.specs.Prelude.{◌≡◌, ◌≢◌, ◌⊎◌, ℕ, Bool, true, false, List, [], ◌++◌, Option, Some}
use Rattle.std.specs.Prelude.{None, Result, Ok, Err}
use Rattle.std.specs.Io.KnownBytes.{Appends, Consumes, IsAtEnd}
use Rattle.ts_wire.specs.Stream.{IsPartial}
use Rattle.ts_wire.specs.declared.fault.FrameFault.{FrameFault}
use Rattle.ts_wire.specs.declared.fault.FrameFault.TheVariants.{Kind}
use Rattle.ts_wire.specs.declared.frame.Frame.{Frame}
use Rattle.ts_serve.specs.declared.fault.ServeFault.{ServeFault}
use Rattle.ts_serve.specs.declared.fault.ServeFault.TheVariants as faults
use Rattle.ts_serve.specs.Requests.{is_request}
use Rattle.ts_serve.specs.Text.{text, fault_frames, AppendsFront}
use Rattle.ts_serve.specs.Stream.{IsCutOff, Serving}

-- a fault in a frame's place was answered, or a front of the answer was written
abbrev pub Refuses : FrameFault → Option (List ℕ) → ServeFault → Option (List ℕ) → Type 0
Refuses fault before (faults.Frame answered) after =
    (answered ≡ fault) × Appends before after (text (fault_frames (Some fault)))
Refuses fault before faults.Cut after = ⊥
Refuses fault before faults.Read after = ⊥
Refuses fault before faults.ReadLimit after = ⊥
Refuses fault before faults.Write after =
    AppendsFront before after (text (fault_frames (Some fault)))
Refuses fault before faults.Memory after =
    AppendsFront before after (text (fault_frames (Some fault)))

module _ {S : Type 0} where
  -- answers were made, on the way to a server, and a front of their text was written
  pub record SaysFront (makes : List Frame → S → Type 0) (before : Option (List ℕ)) (new : S)
      (after : Option (List ℕ)) : Type 0 where
    pub answers : List Frame
    pub made : makes answers new
    pub written : AppendsFront before after (text answers)

  -- answers were made and written, or a front of them was
  abbrev pub Says : (List Frame → S → Type 0) → Option (List ℕ) → Result (Unit {0}) ServeFault → S
      → Option (List ℕ) → Type 0
  Says makes before (Ok done) new after =
      (answers : List Frame) × makes answers new × Appends before after (text answers)
  Says makes before (Err faults.Write) new after = SaysFront makes before new after
  Says makes before (Err faults.Memory) new after = SaysFront makes before new after
  Says makes before (Err other) new after = ⊥

module _ {S : Type 0} (turn : S → Frame → List Frame → S → Type 0) where
  -- a request was answered by a turn; a frame that is no request is Kind
  abbrev pub Answers : S → Frame → Option (List ℕ) → Result (Unit {0}) ServeFault → S
      → Option (List ℕ) → Type 0
  Answers old frame before (Ok done) new after = Says (turn old frame) before (Ok done) new after
  Answers old frame before (Err fault) new after = Says (turn old frame) before
      (Err fault) new after ⊎ ((is_request frame ≡ false) × (new ≡ old)
      × Refuses Kind before fault after)

  -- all whole frames at the front of octets were answered, and these octets are left
  abbrev pub HasServed : List ℕ → S → Option (List ℕ) → S → List ℕ → Option (List ℕ) → Type 0
  HasServed octets old before new rest after = (s : Serving turn octets None old new)
      × (s.rest ≡ rest) × Appends before after (text s.answers)

  -- serving stopped at these octets
  abbrev pub HasStopped : List ℕ → S → Option (List ℕ) → ServeFault → S → Option (List ℕ) → Type 0
  HasStopped octets old before (faults.Frame fault) new after =
      (s : Serving turn octets (Some fault) old new)
      × Appends before after (text (s.answers ++ fault_frames (Some fault)))
  HasStopped octets old before faults.Cut new after = ⊥
  HasStopped octets old before faults.Read new after = IsCutOff turn octets old before new after
  HasStopped octets old before faults.Write new after = IsCutOff turn octets old before new after
  HasStopped octets old before faults.ReadLimit new after =
      IsCutOff turn octets old before new after
  HasStopped octets old before faults.Memory new after = IsCutOff turn octets old before new after

  -- octets that had come were served
  abbrev pub Drains : List ℕ → S → Option (List ℕ) → Result (Unit {0}) ServeFault → S → List ℕ
      → Option (List ℕ) → Type 0
  Drains octets old before (Ok done) new rest after =
      HasServed octets old before new rest after × IsPartial rest
  Drains octets old before (Err fault) new rest after = HasStopped octets old before fault new after

  -- A read, from a reader that had the first left to one that has the second: a piece came and was
  -- served after what was there, or the stream is at its end.
  abbrev pub Reads : Option (List ℕ) → Option (List ℕ) → List ℕ → S → Option (List ℕ)
      → Result Bool ServeFault → S → List ℕ → Option (List ℕ) → Type 0
  Reads left now held old before (Ok true) new rest after = (piece : List ℕ)
      × Consumes left now piece × HasServed (held ++ piece) old before new rest after
      × IsPartial rest
  Reads left now held old before (Ok false) new rest after =
      Consumes left now [] × IsAtEnd now × (new ≡ old) × (rest ≡ held) × (after ≡ before)
  Reads left now held old before (Err fault) new rest after = (piece : List ℕ)
      × Consumes left now piece × HasStopped (held ++ piece) old before fault new after

  -- so far, on the way from a reader that had the first left, these octets were read and served
  pub record SoFar (left now : Option (List ℕ)) (old : S) (before : Option (List ℕ)) (new : S)
      (rest : List ℕ) (after : Option (List ℕ)) : Type 0 where
    pub octets : List ℕ
    pub read : Consumes left now octets
    pub served : HasServed octets old before new rest after
    pub partial : IsPartial rest

  -- a stream was served, as far as it was read
  abbrev pub Serves : Option (List ℕ) → S → Option (List ℕ) → Result (Unit {0}) ServeFault
      → Option (List ℕ) → S → Option (List ℕ) → Type 0
  Serves left old before (Ok done) now new after = (octets : List ℕ) × Consumes left now octets
      × IsAtEnd now × HasServed octets old before new [] after
  Serves left old before (Err faults.Cut) now new after = (octets rest : List ℕ)
      × Consumes left now octets × IsAtEnd now × HasServed octets old before new rest after
      × IsPartial rest × (rest ≢ [])
  Serves left old before (Err faults.Read) now new after = (octets : List ℕ)
      × Consumes left now octets × HasStopped octets old before faults.Read new after
  Serves left old before (Err faults.Write) now new after = (octets : List ℕ)
      × Consumes left now octets × HasStopped octets old before faults.Write new after
  Serves left old before (Err faults.ReadLimit) now new after = (octets : List ℕ)
      × Consumes left now octets × HasStopped octets old before faults.ReadLimit new after
  Serves left old before (Err faults.Memory) now new after = (octets : List ℕ)
      × Consumes left now octets × HasStopped octets old before faults.Memory new after
  Serves left old before (Err (faults.Frame fault)) now new after = (octets : List ℕ)
      × Consumes left now octets × HasStopped octets old before (faults.Frame fault) new after
