use Rattle.std.proofs.Common.{◌≡◌, ℕ, ◌<◌, false, length, get_or, take}
use Rattle.ts_make.specs.KeyUsage.{is_set}
use Rattle.ts_make.proofs.key_usage.flags.Given as goal

-- the bits of the numbers so far are 1
abbrev pub invariant-loop-n : goal.invariant-loop-n
invariant-loop-n l =
    record {
      count : length l.flags.items ≡ l.fn.count;
      set : (k : ℕ) → k < l.fn.count → get_or l.flags.items k false ≡ is_set (take l.n-index l.numbers) k;
    }
