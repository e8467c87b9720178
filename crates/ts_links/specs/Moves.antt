-- What happens on one connection, and what it has then.
use Rattle.std.specs.Prelude.{◌≡◌, ◌⊎◌, ◌<◌, ◌≤◌, ℕ, Bool, true, false, List, [], ◌++◌, length}
use Rattle.std.specs.Prelude.{Some}
use Rattle.ts_wire.specs.Frames.{frame_encoding, FrameFits}
use Rattle.ts_wire.specs.Stream.{IsPartial}
use Rattle.ts_wire.specs.declared.fault.FrameFault.{FrameFault}
use Rattle.ts_wire.specs.declared.frame.Frame.{Frame}
use Rattle.ts_serve.specs.Requests.{is_request}
use Rattle.ts_serve.specs.Stream.{Stops}
use Rattle.ts_serve.specs.Text.{text, fault_frames}
use Rattle.ts_links.specs.Times.{times_opened, times_came, times_took, times_refused, times_left}
use Rattle.ts_links.specs.declared.link.Link.{Link}
use Rattle.ts_links.specs.declared.link.Stage.{Stage}
use Rattle.ts_links.specs.declared.link.Stage.TheVariants as stages

pub data Move : Type 0 where
  Opened : Move
  Came : (piece : List ℕ) → Move  -- these octets came
  Took : (request : Frame) → (answers : List Frame) → Move  -- a request was taken, and answered so
  Refused : (fault : FrameFault) → Move  -- this is in a frame's place, and nothing more is taken
  Left : (octets : List ℕ) → Move  -- these octets were handed on
  Closed : Move

-- more may be read: fewer than 65,536 octets are held, or the first frame of them is not whole
abbrev pub HasRoom : Link → Type 0
HasRoom link = (length link.held < 65536) ⊎ IsPartial link.held

-- octets wait behind the others; or they are lost, and the connection is closed
abbrev pub Puts : Link → Link → Stage → List ℕ → Type 0
Puts a b stage octets = ((b.stage ≡ stage) × (b.waits ≡ a.waits ++ octets))
    ⊎ ((b.stage ≡ stages.Closed) × (b.waits ≡ a.waits))

-- ---- a connection changes from one to another, at a moment

pub record IsOpened (a b : Link) (now : ℕ) : Type 0 where
  pub was : a.stage ≡ stages.Closed
  pub held : b.held ≡ []
  pub waits : b.waits ≡ []
  pub still : b.stage ≡ stages.Open
  pub times : b.times ≡ times_opened now

pub record HasCome (a b : Link) (piece : List ℕ) (now : ℕ) : Type 0 where
  pub was : a.stage ≡ stages.Open
  pub room : HasRoom a
  pub held : b.held ≡ a.held ++ piece
  pub waits : b.waits ≡ a.waits
  pub still : b.stage ≡ stages.Open
  pub times : b.times ≡ times_came a.held a.times now

-- A request at the front was taken, while fewer than 65,536 octets wait.
pub record HasTaken (a b : Link) (request : Frame) (answers : List Frame) (now : ℕ) : Type 0 where
  pub was : a.stage ≡ stages.Open
  pub few : length a.waits < 65536
  pub fits : FrameFits request
  pub asks : is_request request ≡ true
  pub held : a.held ≡ frame_encoding request ++ b.held
  pub puts : Puts a b stages.Open (text answers)
  pub times : b.times ≡ times_took a.waits a.times now

-- A fault, or a frame that is no request, is at the front, and was answered.
pub record HasRefused (a b : Link) (fault : FrameFault) (now : ℕ) : Type 0 where
  pub was : a.stage ≡ stages.Open
  pub stops : Stops fault a.held
  pub held : b.held ≡ a.held
  pub puts : Puts a b stages.Refused (text (fault_frames (Some fault)))
  pub times : b.times ≡ times_refused a.times now

pub record HasLeft (a b : Link) (octets : List ℕ) (now : ℕ) : Type 0 where
  pub held : b.held ≡ a.held
  pub waits : a.waits ≡ octets ++ b.waits
  pub still : b.stage ≡ a.stage
  pub times : b.times ≡ times_left a.waits (length octets) a.times now

pub record IsClosed (a b : Link) : Type 0 where
  pub held : b.held ≡ []
  pub waits : b.waits ≡ []
  pub closed : b.stage ≡ stages.Closed

abbrev pub Makes : Link → Move → ℕ → Link → Type 0
Makes a Opened now b = IsOpened a b now
Makes a (Came piece) now b = HasCome a b piece now
Makes a (Took request answers) now b = HasTaken a b request answers now
Makes a (Refused fault) now b = HasRefused a b fault now
Makes a (Left octets) now b = HasLeft a b octets now
Makes a Closed now b = IsClosed a b

-- ---- what a connection is

abbrev pub is_open : Stage → Bool
is_open stages.Closed = false
is_open stages.Open = true
is_open stages.Refused = true

-- a connection that is not open, and has nothing
pub record IsUnused (link : Link) : Type 0 where
  pub held : link.held ≡ []
  pub waits : link.waits ≡ []
  pub closed : link.stage ≡ stages.Closed

-- an open connection on which nothing is held, and nothing waits
pub record IsIdle (link : Link) : Type 0 where
  pub held : link.held ≡ []
  pub waits : link.waits ≡ []
  pub still : link.stage ≡ stages.Open

-- no request can be taken of it
abbrev pub IsWaiting : Link → Type 0
IsWaiting link = (link.stage ≡ stages.Open → ⊥) ⊎ IsPartial link.held
    ⊎ (65536 ≤ length link.waits)
