-- Which frames are requests.
use Rattle.std.specs.Prelude.{Bool, true, false}
use Rattle.ts_wire.specs.declared.frame.Frame.{Frame}
use Rattle.ts_wire.specs.declared.frame.Frame.TheVariants.{Done, Started, Settled, Answer, Unknown}
use Rattle.ts_wire.specs.declared.frame.Frame.TheVariants.{NodeFault, FrameFault, Prefix, Identity}
use Rattle.ts_wire.specs.declared.frame.Frame.TheVariants.{Reported}

-- kinds 20 to 29 are what a server answers; the others are requests
abbrev pub is_request : Frame → Bool
is_request (Done count) = false
is_request (Started position ballot) = false
is_request (Settled position outcome) = false
is_request (Answer answer) = false
is_request Unknown = false
is_request (NodeFault fault) = false
is_request (FrameFault fault) = false
is_request (Prefix prefix) = false
is_request (Identity node nodes group) = false
is_request (Reported text) = false
is_request request = true
