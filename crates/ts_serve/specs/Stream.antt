-- A stream as a server takes it, whatever its turns are: the requests at the front, the answers to
-- them, and what follows them.
use Rattle.std.specs.Prelude.{◌≡◌, ◌≢◌, ◌⊎◌, ℕ, false, List, [], ◌∷◌, ◌++◌, Option, Some, None}
use Rattle.std.specs.Prelude.{Result, Ok, Err, take, if◌then◌else◌}
use Rattle.std.specs.List.{flat_map, AllByRecursion}
use Rattle.std.specs.Io.KnownBytes.{Appends}
use Rattle.ts_wire.specs.Frames.{FrameFits, frame_encoding}
use Rattle.ts_wire.specs.Stream.{IsFault, IsPartial}
use Rattle.ts_wire.specs.declared.fault.FrameFault.{FrameFault}
use Rattle.ts_wire.specs.declared.fault.FrameFault.TheVariants.{Kind}
use Rattle.ts_wire.specs.declared.frame.Frame.{Frame}
use Rattle.ts_serve.specs.declared.fault.ServeFault.{ServeFault}
use Rattle.ts_serve.specs.declared.fault.ServeFault.TheVariants as faults
use Rattle.ts_serve.specs.Requests.{is_request}
use Rattle.ts_serve.specs.Text.{text, fault_frames, AppendsFront}

-- these octets begin with a frame that is no request
pub record BeginsOther (octets : List ℕ) : Type 0 where
  pub frame : Frame
  pub after : List ℕ
  pub fits : FrameFits frame
  pub other : is_request frame ≡ false
  pub is : octets ≡ frame_encoding frame ++ after

-- where a server stops: a fault is in a frame's place, or a frame that is no request, which is Kind
abbrev pub Stops : FrameFault → List ℕ → Type 0
Stops fault octets = IsFault fault octets ⊎ ((fault ≡ Kind) × BeginsOther octets)

abbrev pub StopsIf : Option FrameFault → List ℕ → Type 0
StopsIf None octets = Unit {0}
StopsIf (Some fault) octets = Stops fault octets

-- the frames up to the first that is no request
abbrev pub requests_of : List Frame → List Frame
requests_of [] = []
requests_of (frame ∷ frames) = if is_request frame then frame ∷ requests_of frames else []

-- the fault at which a server stops: Kind where a frame is no request, and else the fault after the
-- frames
abbrev pub fault_of : List Frame → Option FrameFault → Option FrameFault
fault_of [] fault = fault
fault_of (frame ∷ frames) fault = if is_request frame then fault_of frames fault else Some Kind

-- One turn says what a server answers to a request, and the server then.
module _ {S : Type 0} (turn : S → Frame → List Frame → S → Type 0) where
  -- these requests are answered so, one after another
  abbrev pub Run : S → List Frame → List Frame → S → Type 0
  Run old [] answers new = (answers ≡ []) × (new ≡ old)
  Run old (request ∷ requests) answers new =
      (mid : S) × (first others : List Frame) × turn old request first mid
      × Run mid requests others new × (answers ≡ first ++ others)

  -- a server has answered the requests at the front of a stream; a fault follows them, or nothing
  -- is claimed
  pub record Serving (stream : List ℕ) (fault : Option FrameFault) (old new : S) : Type 0 where
    pub requests : List Frame
    pub rest : List ℕ
    pub is : stream ≡ flat_map frame_encoding requests ++ rest
    pub each : AllByRecursion FrameFits requests
    pub stops : StopsIf fault rest
    pub answers : List Frame
    pub run : Run old requests answers new

  -- a front of the text of the answers was written, and of the fault's answer where one follows the
  -- requests that were taken
  pub record IsCutOff (stream : List ℕ) (old : S) (before : Option (List ℕ)) (new : S)
      (after : Option (List ℕ)) : Type 0 where
    pub fault : Option FrameFault
    pub served : Serving stream fault old new
    pub written : AppendsFront before after (text (served.answers ++ fault_frames fault))

  -- A whole stream was served, on a writer that held the first and holds the second.
  -- Ok: it is these requests, and what is written is the text of the answers.
  -- Cut: less than a whole frame is left after them.
  -- Frame: at the fault that follows them, whose answer comes last.
  -- Another fault: what is written is a front of such a text, of the requests that were taken.
  abbrev pub IsServed : List ℕ → S → Option (List ℕ) → Result (Unit {0}) ServeFault → S
      → Option (List ℕ) → Type 0
  IsServed stream old before (Ok done) new after =
      (s : Serving stream None old new) × (s.rest ≡ []) × Appends before after (text s.answers)
  IsServed stream old before (Err faults.Cut) new after = (s : Serving stream None old new)
      × IsPartial s.rest × (s.rest ≢ []) × Appends before after (text s.answers)
  IsServed stream old before (Err (faults.Frame fault)) new after =
      (s : Serving stream (Some fault) old new)
      × Appends before after (text (s.answers ++ fault_frames (Some fault)))
  IsServed stream old before (Err faults.Read) new after = IsCutOff stream old before new after
  IsServed stream old before (Err faults.Write) new after = IsCutOff stream old before new after
  IsServed stream old before (Err faults.ReadLimit) new after = IsCutOff stream old before new after
  IsServed stream old before (Err faults.Memory) new after = IsCutOff stream old before new after

  -- a front of the text was written: of the answers to the first requests, and after those to all
  -- of them of the fault's answer
  pub record IsCutShort (frames : List Frame) (fault : Option FrameFault) (old : S)
      (before : Option (List ℕ)) (new : S) (after : Option (List ℕ)) : Type 0 where
    pub taken : ℕ
    pub answers : List Frame
    pub run : Run old (take taken (requests_of frames)) answers new
    pub last : Option FrameFault
    pub stops : (last ≡ None) ⊎ ((last ≡ fault_of frames fault)
        × (take taken (requests_of frames) ≡ requests_of frames))
    pub written : AppendsFront before after (text (answers ++ fault_frames last))

  -- these frames are answered, and the fault after them where one is
  pub record IsAnsweredTo (frames : List Frame) (fault stop : Option FrameFault) (old : S)
      (before : Option (List ℕ)) (new : S) (after : Option (List ℕ)) : Type 0 where
    pub stops : fault_of frames fault ≡ stop
    pub answers : List Frame
    pub run : Run old (requests_of frames) answers new
    pub written : Appends before after (text (answers ++ fault_frames stop))

  -- A stream of these frames and the fault after them was served: the answers to all its requests
  -- are written; or to the first of them.
  abbrev pub IsAnswered : List Frame → Option FrameFault → S → Option (List ℕ)
      → Result (Unit {0}) ServeFault → S → Option (List ℕ) → Type 0
  IsAnswered frames fault old before (Ok done) new after =
      IsAnsweredTo frames fault None old before new after
  IsAnswered frames fault old before (Err faults.Cut) new after =
      IsAnsweredTo frames fault None old before new after
  IsAnswered frames fault old before (Err (faults.Frame stop)) new after =
      IsAnsweredTo frames fault (Some stop) old before new after
  IsAnswered frames fault old before (Err faults.Read) new after =
      IsCutShort frames fault old before new after
  IsAnswered frames fault old before (Err faults.Write) new after =
      IsCutShort frames fault old before new after
  IsAnswered frames fault old before (Err faults.ReadLimit) new after =
      IsCutShort frames fault old before new after
  IsAnswered frames fault old before (Err faults.Memory) new after =
      IsCutShort frames fault old before new after

  -- a whole stream was served, to its end or to a fault in it, and these are the answers
  abbrev pub IsServedSomehow : List ℕ → S → S → List ℕ → Type 0
  IsServedSomehow stream old new answers = (result : Result (Unit {0}) ServeFault)
      × IsServed stream old (Some []) result new (Some answers)
