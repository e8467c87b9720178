-- What taking a frame of a stream gives.
use Rattle.std.specs.Prelude.{◌≡◌, ◌≤◌, ◌+◌, ◌++◌, ℕ, List, length, drop, Option, Some, None}
use Rattle.std.specs.Prelude.{Result, Ok, Err}
use Rattle.std.specs.List.{flat_map, AllByRecursion}
use Rattle.std.specs.Int.{to_be_bytes, w32}
use Rattle.ts_wire.specs.Frames.{frame_encoding, FrameFits}
use Rattle.ts_wire.specs.Stream.{IsLength, IsPartial, IsFault, Ends}
use Rattle.ts_wire.specs.declared.fault.FrameFault.{FrameFault}
use Rattle.ts_wire.specs.declared.fault.FrameFault.TheVariants.{Length}
use Rattle.ts_wire.specs.declared.frame.Frame.{Frame}
use Rattle.ts_wire.specs.declared.wire_error.FeedError.{FeedError}
use Rattle.ts_wire.specs.declared.wire_error.FeedError.TheVariants.{Memory, Frame as Wrong}

-- a call's frame or fault is that of reading, unless memory was refused
abbrev pub FrameGives : Result Frame FeedError → Result Frame FrameFault → Type 0
FrameGives (Ok frame) reading = reading ≡ Ok frame
FrameGives (Err Memory) reading = Unit {0}
FrameGives (Err (Wrong fault)) reading = reading ≡ Err fault

-- octets begin with this length, and as many follow
pub record HasSize (octets : List ℕ) (n : ℕ) : Type 0 where
  pub length_is : IsLength n
  pub enough : 4 + n ≤ length octets
  pub is : octets ≡ to_be_bytes w32 n ++ drop 4 octets

abbrev pub SizeOr : List ℕ → Result (Option ℕ) FrameFault → Type 0
SizeOr octets (Ok None) = IsPartial octets
SizeOr octets (Ok (Some n)) = HasSize octets n
SizeOr octets (Err fault) = IsFault fault octets × (fault ≡ Length)

-- frames that fit were taken from the front of octets, up to a fault or to less than a whole frame
pub record Drains (old : List ℕ) (before : List Frame) (new : List ℕ) (after : List Frame)
    (fault : Option FrameFault) : Type 0 where
  pub taken : List Frame
  pub each : AllByRecursion FrameFits taken
  pub more : after ≡ before ++ taken
  pub is : old ≡ flat_map frame_encoding taken ++ new
  pub ends : Ends fault new
