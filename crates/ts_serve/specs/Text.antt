-- What is written for answers.
use Rattle.std.specs.Prelude.{◌≡◌, ◌+◌, ℕ, nat_le, List, [], ◌∷◌, ◌++◌, length, Option, Some, None}
use Rattle.std.specs.Prelude.{if◌then◌else◌}
use Rattle.std.specs.List.{flat_map}
use Rattle.std.specs.Io.KnownBytes.{Appends}
use Rattle.ts_wire.specs.Frames.{frame_fields, frame_encoding}
use Rattle.ts_wire.specs.declared.fault.FrameFault.{FrameFault}
use Rattle.ts_synod.specs.declared.fault.NodeFault.TheVariants.{Memory}
use Rattle.ts_wire.specs.declared.frame.Frame.{Frame}
use Rattle.ts_wire.specs.declared.frame.Frame.TheVariants as frames

-- a frame as it is written: one that would be longer than a frame may be is NodeFault Memory
abbrev pub frame_text : Frame → List ℕ
frame_text frame = if nat_le (2 + length (frame_fields frame)) 8388608 then frame_encoding frame
    else frame_encoding (frames.NodeFault Memory)

abbrev pub text : List Frame → List ℕ
text answers = flat_map frame_text answers

-- what a fault in a frame's place is answered
abbrev pub fault_frames : Option FrameFault → List Frame
fault_frames None = []
fault_frames (Some fault) = frames.FrameFault fault ∷ []

-- a writer got a front of these octets, and nothing else
pub record AppendsFront (old new : Option (List ℕ)) (octets : List ℕ) : Type 0 where
  pub front : List ℕ
  pub others : List ℕ
  pub is : octets ≡ front ++ others
  pub written : Appends old new front
