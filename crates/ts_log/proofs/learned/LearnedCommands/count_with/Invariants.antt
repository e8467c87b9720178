use Rattle.std.proofs.Common.{◌≡◌, ◌-◌, ◌≤◌, ◌<◌, ℕ, is_some, true}
use Rattle.ts_log.specs.Maps.{learned_in}
use Rattle.ts_log.proofs.learned.LearnedCommands.count_with.Given as goal

abbrev pub invariant-loop-count : goal.invariant-loop-count
invariant-loop-count g l = record { low : l.position ≤ l.count; high : l.count ≤ 1000000; run : (q : ℕ) → l.position < q → q ≤ l.count → is_some (learned_in l.self.commands q) ≡ true }

abbrev pub decreases-loop-count : goal.decreases-loop-count
decreases-loop-count g l = 1000000 - l.count
