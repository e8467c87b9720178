-- What a frame that a node takes has to do with the command that is under way.
use Rattle.std.specs.Prelude.{ℕ, List, [], ◌∷◌, ◌+◌, ◌*◌, length, take, nat_eq, nat_le}
use Rattle.std.specs.Prelude.{Option, None, Some, if◌then◌else◌}
use Rattle.ts_carrier.specs.declared.event.FrameEvent.{FrameEvent}
use Rattle.ts_carrier.specs.declared.event.FrameEvent.TheVariants.{Begins, Other, Refuses, Submits}

-- a number of four octets, big endian
abbrev pub number_of : ℕ → ℕ → ℕ → ℕ → ℕ
number_of a b c d = ((a * 256 + b) * 256 + c) * 256 + d

-- the frame that begins here, if it is whole: four octets of the length of what follows
abbrev pub whole_frame : List ℕ → Option (List ℕ)
whole_frame (a ∷ b ∷ c ∷ d ∷ rest) = if nat_le (number_of a b c d) (length rest)
    then Some (take (4 + number_of a b c d) (a ∷ b ∷ c ∷ d ∷ rest)) else None
whole_frame other = None

-- a Prepare begins with the number of its node
abbrev pub begins : List ℕ → FrameEvent
begins [] = Other
begins (node ∷ fields) = Begins node

-- what a frame says by its kind, which the version follows
abbrev pub event_of : List ℕ → FrameEvent
event_of (a ∷ b ∷ c ∷ d ∷ version ∷ kind ∷ fields) =
    if nat_eq kind 0x10 then Submits else
    (if nat_eq kind 0x01 then begins fields else (if nat_eq kind 0x03 then Refuses else Other))
event_of other = Other
