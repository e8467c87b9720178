use Rattle.std.proofs.Common.{◌≡◌, take}
use Rattle.ts_make.specs.KeyUsage.{usage_numbers}
use Rattle.ts_make.proofs.key_usage.numbers.Given as goal

-- the numbers are those of the parts so far
abbrev pub invariant-loop-part : goal.invariant-loop-part
invariant-loop-part l = l.numbers.items ≡ usage_numbers (take l.part-index l.parts)
