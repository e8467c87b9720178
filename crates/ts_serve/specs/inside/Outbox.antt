-- The messages that wait to be taken.
use Rattle.std.specs.Prelude.{◌≡◌, ◌≤◌, List, [], ◌∷◌, map, length, vec_capacity}
use Rattle.std.specs.Global.{Vec}
use Rattle.ts_synod.specs.declared.message.Message.{Message}
use Rattle.ts_command.specs.declared.command.Command.{Command}
use Rattle.ts_wire.specs.declared.frame.Frame.{Frame}
use Rattle.ts_wire.specs.declared.frame.Frame.TheVariants.{Peer}

-- the messages of frames
abbrev pub messages_in : List Frame → List (Message Command)
messages_in [] = []
messages_in (Peer message ∷ frames) = message ∷ messages_in frames
messages_in (other ∷ frames) = messages_in frames

-- at most 256 frames, each of a message, and room for as many
pub record IsOutbox (frames : Vec Frame) : Type 0 where
  pub peers : frames.items ≡ map Peer (messages_in frames.items)
  pub few : length frames.items ≤ 256
  pub room : 256 ≤ vec_capacity frames
