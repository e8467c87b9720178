use Rattle.std.proofs.Common.{◌-◌, length}
use Rattle.ts_record.specs.Blocks.{ReadTo}
use Rattle.ts_record.proofs.blocks.read_blocks.Given as goal

abbrev pub invariant-loop-at : goal.invariant-loop-at
invariant-loop-at g l = ReadTo g.C.Codec.octets l.layout l.octets l.facts.items l.at

abbrev pub decreases-loop-at : goal.decreases-loop-at
decreases-loop-at g l = length l.octets - l.at
