use Rattle.std.proofs.Common.{◌≡◌, ◌⊎◌, ◌≤◌, ◌≢◌, ◌+◌, false, is_some, inl, inr, arith, rules}
use Rattle.ts_log.specs.Maps.{learned_in}
use Rattle.ts_log.proofs.Counting.{count_grows, count_stays, is_none}
use Rattle.ts_log.proofs.learned.LearnedCommands.count_with.Goals as goal
use Rattle.ts_log.proofs.learned.LearnedCommands.count_with.Goals.{then-led-ge-LAST_POSITION-via-then-led-ge-LAST_POSITION, then-led-ge-LAST_POSITION-via-else-led-ge-LAST_POSITION+then-position-led}

pub returns-then-led-ge-LAST_POSITION-clause-count : goal.returns-then-led-ge-LAST_POSITION-clause-count
returns-then-led-ge-LAST_POSITION-clause-count g c =
    let a = c.args.self.now in
    let led = c.count-led.result in
    let far : (1000000 ≤ led) ⊎ (c.args.position ≢ led + 1) =
    elim c.then-led-ge-LAST_POSITION.branch [
      | then-led-ge-LAST_POSITION-via-then-led-ge-LAST_POSITION w ↦ inl (omega arith)
      | then-led-ge-LAST_POSITION-via-else-led-ge-LAST_POSITION+then-position-led w ↦
          inr (λ e. absurd (omega arith))
    ] in
    count_stays (learned_in a.commands) led c.args.position c.args.command.now c.count-led.ensures.count far

pub returns-else-is_learned-clause-count : goal.returns-else-is_learned-clause-count
returns-else-is_learned-clause-count g c =
    let a = c.args.self.now in
    let m = c.loop-count.count in
    let none : is_some (learned_in a.commands (m + 1)) ≡ false = search rules in
    count_grows (learned_in a.commands) c.count-led.result c.args.position c.args.command.now m
    c.count-led.ensures.count (omega arith) (omega arith) (omega arith) c.loop-count.invariant.run
    (inr (is_none (learned_in a.commands (m + 1)) none))

pub returns-after-loop-count-clause-count : goal.returns-after-loop-count-clause-count
returns-after-loop-count-clause-count g c =
    let a = c.args.self.now in
    let m = c.loop-count.count in
    count_grows (learned_in a.commands) c.count-led.result c.args.position c.args.command.now m
    c.count-led.ensures.count (omega arith) (omega arith) (omega arith) c.loop-count.invariant.run
    (inl (omega arith))
