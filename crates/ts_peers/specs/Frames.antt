-- Octets that begin with frames, as a node gives them.
use Rattle.std.specs.Prelude.{◌≡◌, ℕ, Bool, List, ◌++◌, nat_eq, not}
use Rattle.std.specs.List.{flat_map}
use Rattle.ts_command.specs.declared.command.Command.{Command}
use Rattle.ts_command.specs.Commands.{id_of}
use Rattle.ts_synod.specs.declared.message.Message.{Message}
use Rattle.ts_wire.specs.Frames.{FrameFits, frame_encoding}
use Rattle.ts_wire.specs.declared.frame.Frame.{Frame}
use Rattle.ts_wire.specs.declared.frame.Frame.TheVariants.{Outcome, Peer, Submit}

-- the frame of a message
abbrev pub frame_of : Message Command → List ℕ
frame_of message = frame_encoding (Peer message)

-- a message is to the node that it is from
abbrev pub is_to_itself : Message Command → Bool
is_to_itself message = nat_eq message.from message.to

-- it is to another one
abbrev pub is_to_another : Message Command → Bool
is_to_another message = not (is_to_itself message)

-- the first frame is this one
pub record BeginsWith (octets : List ℕ) (frame : Frame) : Type 0 where
  pub rest : List ℕ
  pub fits : FrameFits frame
  pub is : octets ≡ frame_encoding frame ++ rest

-- the first frames are these messages, one behind another
pub record BeginWithMessages (octets : List ℕ) (messages : List (Message Command)) : Type 0 where
  pub rest : List ℕ
  pub is : octets ≡ flat_map frame_of messages ++ rest

-- the frame asks what became of the command that the other one submits
pub record AsksOutcome (submit octets : List ℕ) : Type 0 where
  pub command : Command
  pub submits : BeginsWith submit (Submit command)
  pub asks : octets ≡ frame_encoding (Outcome (id_of command))
