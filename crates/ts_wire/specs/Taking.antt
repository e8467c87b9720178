-- What taking a frame from a stream answers.
use Rattle.std.specs.Prelude.{ℕ, List}
use Rattle.ts_wire.specs.Stream.{IsFault}
use Rattle.ts_wire.specs.declared.wire_error.FeedError.{FeedError}
use Rattle.ts_wire.specs.declared.wire_error.FeedError.TheVariants.{Memory, Frame as Wrong}

-- a fault is here, unless memory was refused
abbrev pub IsWrong : FeedError → List ℕ → Type 0
IsWrong Memory octets = Unit {0}
IsWrong (Wrong fault) octets = IsFault fault octets
