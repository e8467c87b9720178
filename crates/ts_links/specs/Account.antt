-- What a connection has had since it was opened, and what it must have.
use Rattle.std.specs.Prelude.{◌≡◌, ℕ, true, List, [], ◌∷◌, ◌++◌, nat_eq, length, take}
use Rattle.std.specs.Prelude.{Option, Some, None, IfSome, if◌then◌else◌}
use Rattle.std.specs.List.{flat_map, AllByRecursion}
use Rattle.ts_wire.specs.Frames.{frame_encoding, FrameFits}
use Rattle.ts_wire.specs.declared.fault.FrameFault.{FrameFault}
use Rattle.ts_wire.specs.declared.frame.Frame.{Frame}
use Rattle.ts_serve.specs.Requests.{is_request}
use Rattle.ts_serve.specs.Stream.{StopsIf, requests_of, fault_of}
use Rattle.ts_serve.specs.Text.{text, fault_frames}
use Rattle.ts_links.specs.declared.link.Link.{Link}
use Rattle.ts_links.specs.declared.link.Stage.TheVariants as stages
use Rattle.ts_links.specs.Moves.{Move, Opened, Came, Took, Refused, Left, Closed, is_open}
use Rattle.ts_links.specs.Events.{Event}

-- the octets that came, the requests that were taken of them, the answers to these, the fault that
-- follows them, and the octets that left
pub record Account : Type 0 where
  pub came : List ℕ
  pub requests : List Frame
  pub answers : List Frame
  pub fault : Option FrameFault
  pub left : List ℕ

abbrev pub nothing : Account
nothing = record { came = []; requests = []; answers = []; fault = None; left = [] }

abbrev pub note_move : Account → Move → Account
note_move account Opened = nothing
note_move account (Came piece) = record account { came = account.came ++ piece }
note_move account (Took request answers) = record account {
  requests = account.requests ++ request ∷ [];
  answers = account.answers ++ answers;
}
note_move account (Refused fault) = record account { fault = Some fault }
note_move account (Left octets) = record account { left = account.left ++ octets }
note_move account Closed = account

-- the account of one slot after events
abbrev pub account_after : ℕ → Account → List Event → Account
account_after slot account [] = account
account_after slot account (event ∷ events) =
    account_after slot (if nat_eq event.slot slot then note_move account event.move else account)
    events

-- What came on a connection are the requests that were taken, and then what is held; where it was
-- refused, that begins with the fault. The text of the answers to exactly these requests, in their
-- order, and of the fault's answer, is what left, and then what waits. Nothing else left or waits,
-- and until the connection is closed nothing of either is lost.
pub record IsFair (account : Account) (link : Link) : Type 0 where
  pub cut : List ℕ
  pub lost : List ℕ
  pub asked : account.came ≡ flat_map frame_encoding account.requests ++ (link.held ++ cut)
  pub each : AllByRecursion FrameFits account.requests
  pub asks : AllByRecursion (λ f. is_request f ≡ true) account.requests
  pub stops : StopsIf account.fault (link.held ++ cut)
  pub answered : text (account.answers ++ fault_frames account.fault)
      ≡ account.left ++ (link.waits ++ lost)
  pub goes_on : link.stage ≡ stages.Open → account.fault ≡ None
  pub whole : is_open link.stage ≡ true → (cut ≡ []) × (lost ≡ [])

-- The requests that were taken are the first of those among the frames that the stream splits
-- into; all of them where a fault was answered, and that is the fault at which a server stops.
pub record IsFront (account : Account) (frames : List Frame) (fault : Option FrameFault)
    : Type 0 where
  pub front : take (length account.requests) (requests_of frames) ≡ account.requests
  pub all : IfSome account.fault (λ stop. (requests_of frames ≡ account.requests)
      × (fault_of frames fault ≡ Some stop))
