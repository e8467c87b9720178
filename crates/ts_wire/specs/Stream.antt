-- A stream of frames: what it encodes, on the octets alone.
use Rattle.std.specs.Prelude.{◌≡◌, ◌≢◌, ◌⊎◌, ◌≤◌, ◌<◌, ◌+◌, ◌^◌, ℕ, true, false, List, ◌∷◌, ◌++◌}
use Rattle.std.specs.Prelude.{length, Option, Some, None}
use Rattle.std.specs.List.{flat_map, AllByRecursion}
use Rattle.std.specs.Int.{to_be_bytes, w32}
use Rattle.ts_wire.specs.Frames.{frame_kind, is_kind, frame_fields, frame_encoding, FrameFits}
use Rattle.ts_wire.specs.Frames.{FrameFieldsFit}
use Rattle.ts_wire.specs.declared.fault.FrameFault.{FrameFault}
use Rattle.ts_wire.specs.declared.fault.FrameFault.TheVariants.{Length, Version, Kind, Field}
use Rattle.ts_wire.specs.declared.fault.FrameFault.TheVariants.{Trailing}
use Rattle.ts_wire.specs.declared.frame.Frame.{Frame}

-- what follows the four octets of a length: 2 to 8,388,608
abbrev pub IsLength : ℕ → Type 0
IsLength n = (2 ≤ n) × (n ≤ 8388608)

-- less than a whole frame: fewer than four octets, or fewer than their length says
abbrev pub IsPartial : List ℕ → Type 0
IsPartial octets = (length octets < 4)
    ⊎ ((n : ℕ) × (body : List ℕ) × IsLength n × (octets ≡ to_be_bytes w32 n ++ body)
    × (length body < n))

-- octets begin with so many after their length, of which these are the version, the kind and the
-- rest
pub record IsFramed (octets : List ℕ) (version kind : ℕ) (rest : List ℕ) : Type 0 where
  pub after : List ℕ
  pub short : 2 + length rest ≤ 8388608
  pub is : octets ≡ to_be_bytes w32 (2 + length rest) ++ (version ∷ kind ∷ (rest ++ after))

-- these octets are in the place of a frame's fields: none begins with any of the kind's, or more
-- follow
abbrev pub IsCut : ℕ → List ℕ → Type 0
IsCut kind octets = (frame : Frame) (after : List ℕ) → FrameFieldsFit frame → frame_kind frame
    ≡ kind
    → octets ≡ frame_fields frame ++ after → ⊥

abbrev pub GoesOn : ℕ → List ℕ → Type 0
GoesOn kind octets = (frame : Frame) × (next : ℕ) × (after : List ℕ) × FrameFieldsFit frame
    × (frame_kind frame ≡ kind) × (octets ≡ frame_fields frame ++ next ∷ after)

-- The fault that is in a frame's place: a length out of range, as soon as its octets are there;
-- then, with the frame whole, another version, a kind that there isn't, a field that is cut or out
-- of range, octets after the fields.
abbrev pub IsFault : FrameFault → List ℕ → Type 0
IsFault Length octets = (n : ℕ) × (after : List ℕ) × (n < 2 ^ 32) × (n < 2 ⊎ 8388608 < n)
    × (octets ≡ to_be_bytes w32 n ++ after)
IsFault Version octets = (version kind : ℕ) × (rest : List ℕ) × IsFramed octets version kind rest
    × (version ≢ 2)
IsFault Kind octets = (kind : ℕ) × (rest : List ℕ) × IsFramed octets 2 kind rest
    × (is_kind kind ≡ false)
IsFault Field octets = (kind : ℕ) × (rest : List ℕ) × IsFramed octets 2 kind rest
    × (is_kind kind ≡ true) × IsCut kind rest
IsFault Trailing octets = (kind : ℕ) × (rest : List ℕ) × IsFramed octets 2 kind rest
    × (is_kind kind ≡ true) × GoesOn kind rest

-- where a fault stands, or less than a whole frame
abbrev pub Ends : Option FrameFault → List ℕ → Type 0
Ends None octets = IsPartial octets
Ends (Some fault) octets = IsFault fault octets

-- the stream is these frames, one after another, up to a rest that is no whole frame, or to a fault
-- in a frame's place
pub record Splits (stream : List ℕ) (frames : List Frame) (fault : Option FrameFault) : Type 0 where
  pub rest : List ℕ
  pub is : stream ≡ flat_map frame_encoding frames ++ rest
  pub each : AllByRecursion FrameFits frames
  pub ends : Ends fault rest
