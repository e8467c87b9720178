-- What octets answer, and why they answer nothing.
use Rattle.std.specs.Prelude.{◌≡◌, ◌⊎◌, ◌<◌, ◌+◌, ℕ, List, ◌++◌}
use Rattle.std.specs.Prelude.{length, Option, Some, None}
use Rattle.ts_wire.specs.Frames.{FrameFits, frame_encoding, frame_fields}
use Rattle.ts_wire.specs.Stream.{IsFault, IsPartial}
use Rattle.ts_wire.specs.declared.fault.FrameFault.TheVariants.{Kind, Length, Trailing}
use Rattle.ts_wire.specs.declared.frame.Frame.{Frame}
use Rattle.ts_wire.specs.declared.frame.Frame.TheVariants.{Answer, FrameFault, NodeFault}
use Rattle.ts_exchange.specs.declared.fault.ExchangeFault.{ExchangeFault}
use Rattle.ts_exchange.specs.declared.fault.ExchangeFault.TheVariants.{Cut, Memory}
use Rattle.ts_exchange.specs.declared.fault.ExchangeFault.TheVariants.{Frame as Wrong, Node}

-- the fault that a frame says, if it says one
abbrev pub fault_in : Frame → Option ExchangeFault
fault_in (NodeFault f) = Some (Node f)
fault_in (FrameFault f) = Some (Wrong f)
fault_in frame = None

-- octets begin with a frame that says this fault
pub record IsSaid (octets : List ℕ) (e : ExchangeFault) : Type 0 where
  pub frame : Frame
  pub after : List ℕ
  pub fits : FrameFits frame
  pub begin : octets ≡ frame_encoding frame ++ after
  pub says : fault_in frame ≡ Some e

-- octets go on behind a frame
pub record GoesOn (octets : List ℕ) : Type 0 where
  pub frame : Frame
  pub after : List ℕ
  pub fits : FrameFits frame
  pub begin : octets ≡ frame_encoding frame ++ after
  pub more : 0 < length after

-- less than a frame; a fault in a frame's place; a frame that says one, or that is not alone
abbrev pub IsNoAnswer : List ℕ → ExchangeFault → Type 0
IsNoAnswer octets Memory = Unit {0}
IsNoAnswer octets Cut = IsPartial octets
IsNoAnswer octets (Node f) = IsSaid octets (Node f)
IsNoAnswer octets (Wrong f) =
    IsFault f octets ⊎ (IsSaid octets (Wrong f) ⊎ ((f ≡ Trailing) × GoesOn octets))

-- a request has no encoding, unless memory is refused
abbrev pub IsTooLong : Frame → ExchangeFault → Type 0
IsTooLong request Memory = Unit {0}
IsTooLong request e = (e ≡ Wrong Length) × (8388608 < 2 + length (frame_fields request))

-- the frame is no answer to a question
abbrev pub IsOther : Frame → ExchangeFault → Type 0
IsOther (Answer answer) e = ⊥
IsOther frame e = e ≡ Wrong Kind
