-- What a frame says to a replay.
use Rattle.std.specs.Prelude.{ℕ, Option, Some, None}
use Rattle.ts_wire.specs.declared.frame.Frame.{Frame}
use Rattle.ts_wire.specs.declared.frame.Frame.TheVariants.{Settled, Prefix}

-- where a command is settled
abbrev pub settled_in : Frame → Option ℕ
settled_in (Settled position outcome) = Some position
settled_in other = None

-- how many commands are known
abbrev pub known_in : Frame → Option ℕ
known_in (Prefix prefix) = Some prefix
known_in other = None
