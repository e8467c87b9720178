-- Outcomes of commands and codes of faults in frames.
use Rattle.std.specs.Prelude.{◌≡◌, ℕ, true, List, [], ◌∷◌}
use Rattle.std.specs.Int.{to_be_bytes, w32}
use Rattle.ts_codec.specs.Ranges.{is_position}
use Rattle.ts_command.specs.declared.outcome.Outcome.{Outcome}
use Rattle.ts_command.specs.declared.outcome.Outcome.TheVariants.{Applied, Repeated, Refused}
use Rattle.ts_command.specs.Outcomes.{refusal_code}
use Rattle.ts_synod.specs.declared.fault.NodeFault.{NodeFault}
use Rattle.ts_synod.specs.declared.fault.NodeFault.TheVariants.{Memory, DiskFailed, Broken}
use Rattle.ts_synod.specs.declared.fault.NodeFault.TheVariants.{RoundsExhausted, PositionsExhausted}
use Rattle.ts_synod.specs.declared.fault.NodeFault.TheVariants.{GenerationsExhausted}
use Rattle.ts_wire.specs.declared.fault.FrameFault.{FrameFault}
use Rattle.ts_wire.specs.declared.fault.FrameFault.TheVariants.{Length, Version, Kind, Field}
use Rattle.ts_wire.specs.declared.fault.FrameFault.TheVariants.{Trailing}

-- 00 applied, 01 and the position of the first, or 02 and why it was refused
abbrev pub outcome_encoding : Outcome → List ℕ
outcome_encoding Applied = 0 ∷ []
outcome_encoding (Repeated position) = 1 ∷ to_be_bytes w32 position
outcome_encoding (Refused refusal) = 2 ∷ refusal_code refusal ∷ []

abbrev pub OutcomeFits : Outcome → Type 0
OutcomeFits (Repeated position) = is_position position ≡ true
OutcomeFits other = Unit {0}

abbrev pub node_fault_code : NodeFault → ℕ
node_fault_code Memory = 1
node_fault_code DiskFailed = 2
node_fault_code Broken = 3
node_fault_code RoundsExhausted = 4
node_fault_code PositionsExhausted = 5
node_fault_code GenerationsExhausted = 6

abbrev pub frame_fault_code : FrameFault → ℕ
frame_fault_code Length = 1
frame_fault_code Version = 2
frame_fault_code Kind = 3
frame_fault_code Field = 4
frame_fault_code Trailing = 5
