-- The parts are those before, and the bits so far.
use Rattle.std.proofs.Common.{◌≡◌, ◌++◌, map, take}
use Rattle.ts_script.specs.Parts.{part_in, usage_bit}
use Rattle.ts_script.proofs.extension_words.append_bits.Given as goal

abbrev pub invariant-loop-bit : goal.invariant-loop-bit
invariant-loop-bit l = map part_in l.parts.items ≡ map part_in l.initial.parts.items ++ map usage_bit (take l.bit-index l.bits)
