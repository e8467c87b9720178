use Rattle.std.proofs.Common.{◌≡◌, ℕ, ◌<◌, get_or}
use Rattle.std.specs.Prelude.{bit_and}
use Rattle.ts_name.proofs.holding.is_within_range.Given as goal

abbrev pub invariant-loop-i : goal.invariant-loop-i
invariant-loop-i l = (k : ℕ) → k < l.i → bit_and (get_or l.address k 0) (get_or l.mask k 0) ≡ bit_and (get_or l.base k 0) (get_or l.mask k 0)
