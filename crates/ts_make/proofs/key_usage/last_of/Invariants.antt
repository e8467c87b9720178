use Rattle.std.proofs.Common.{◌≡◌, ℕ, ◌<◌, ◌≤◌, get_or, take}
use Rattle.ts_make.specs.KeyUsage.{last_set}
use Rattle.ts_make.proofs.key_usage.last_of.Given as goal

-- the greatest of those so far
abbrev pub invariant-loop-n : goal.invariant-loop-n
invariant-loop-n l =
    record {
      exact : l.last ≡ last_set (take l.n-index l.numbers);
      within : (k : ℕ) → k < l.n-index → get_or l.numbers k 0 ≤ l.last;
    }
