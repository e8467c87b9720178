-- What the frames that a node takes, and the messages that it makes, do to the command that is
-- under way.
use Rattle.std.specs.Prelude.{◌≡◌, ◌⊎◌, ◌&&◌, ℕ, Bool, true, false, List, [], ◌∷◌}
use Rattle.std.specs.Prelude.{Option, None, Some}
use Rattle.std.specs.Global.{Vec}
use Rattle.ts_carrier.specs.Event.{event_of, whole_frame}
use Rattle.ts_carrier.specs.Gate.{Sees, after_refusal, new_command}
use Rattle.ts_carrier.specs.declared.event.FrameEvent.{FrameEvent}
use Rattle.ts_carrier.specs.declared.event.FrameEvent.TheVariants.{Begins, Other, Refuses, Submits}
use Rattle.ts_carrier.specs.declared.gate.Gate.{Gate}
use Rattle.ts_command.specs.declared.command.Command.{Command}
use Rattle.ts_synod.specs.declared.message.Body.{Body}
use Rattle.ts_synod.specs.declared.message.Body.TheVariants.{Busy, Prepare}
use Rattle.ts_synod.specs.declared.message.Message.{Message}
use Rattle.ts_wire.specs.declared.frame.Frame.{Frame}
use Rattle.ts_wire.specs.declared.frame.Frame.TheVariants.{Peer, Submit}
use Rattle.ts_peers.specs.Frames.{is_to_itself}

-- ---- what frames say

-- a message says that its node begins a round, or that a round was refused, or neither
abbrev pub message_event : Body Command → ℕ → FrameEvent
message_event (Prepare position ballot) from = Begins from
message_event (Busy position ballot promised) from = Refuses
message_event other from = Other

-- what a frame says, which its octets say too (`laws`)
abbrev pub event_in : Frame → FrameEvent
event_in (Submit command) = Submits
event_in (Peer message) = message_event message.body message.from
event_in other = Other

-- ---- what they do

-- the command of this frame is under way
pub record HasBegun (frame : List ℕ) (now : ℕ) (old new : Gate) : Type 0 where
  pub copy : Vec ℕ
  pub chance : ℕ
  pub is_copy : copy.items ≡ frame
  pub is : new ≡ record old { wanted = Some (new_command copy now chance) }

-- a round of the command was refused
pub record IsRefused (now : ℕ) (old new : Gate) : Type 0 where
  pub chance : ℕ
  pub is : new ≡ record old { wanted = after_refusal old old.wanted now chance }

-- after a whole frame that says this; without memory nothing changes
abbrev pub IsAfter : FrameEvent → List ℕ → ℕ → Gate → Gate → Type 0
IsAfter Submits frame now old new = (new ≡ old) ⊎ HasBegun frame now old new
IsAfter (Begins node) frame now old new = (new ≡ old) ⊎ Sees node now old new
IsAfter Refuses frame now old new = IsRefused now old new
IsAfter Other frame now old new = new ≡ old

-- after the frame that begins here, if it is whole
abbrev pub IsAfterWhole : Option (List ℕ) → ℕ → Gate → Gate → Type 0
IsAfterWhole (Some frame) now old new = IsAfter (event_of frame) frame now old new
IsAfterWhole None now old new = new ≡ old

-- after a frame is taken that begins here, where messages are carried or not
abbrev pub HasSeen : Bool → List ℕ → ℕ → Gate → Gate → Type 0
HasSeen true held now old new = IsAfterWhole (whole_frame held) now old new
HasSeen false held now old new = new ≡ old

-- ---- what a node's own messages do

abbrev pub is_busy : Body Command → Bool
is_busy (Busy position ballot promised) = true
is_busy other = false

-- the node refused a round of its own, as it has promised a higher one
abbrev pub refuses_own : Message Command → Bool
refuses_own message = is_to_itself message && is_busy message.body

-- after a message that refuses a round of the node's own, or does not
abbrev pub IsHeard : Bool → ℕ → Gate → Gate → Type 0
IsHeard true now old new = IsRefused now old new
IsHeard false now old new = new ≡ old

-- after a message that the node has made
abbrev pub HasHeard : Message Command → ℕ → Gate → Gate → Type 0
HasHeard message now old new = IsHeard (refuses_own message) now old new

-- after these, one behind another
abbrev pub HaveHeard : List (Message Command) → ℕ → Gate → Gate → Type 0
HaveHeard [] now old new = new ≡ old
HaveHeard (message ∷ messages) now old new =
    (next : Gate) × HasHeard message now old next × HaveHeard messages now next new
