use Rattle.std.proofs.Common.{◌≡◌, ◌-◌, ◌*◌, ◌%◌, ◌∷◌}
use Rattle.std.specs.Prelude.{map}
use Rattle.std.specs.List.{range_with_len}
use Rattle.ts_make.specs.KeyUsage.{octet_from}
use Rattle.ts_make.proofs.key_usage.content.Given as goal

-- the number of unused bits, and the octets so far
abbrev pub invariant-loop-i : goal.invariant-loop-i
invariant-loop-i l = l.content.items ≡ (7 - l.fn.last % 8) ∷ map (λ i. octet_from l.fn.numbers (8 * i)) (range_with_len 0 l.i)
