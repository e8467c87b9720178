use Rattle.std.proofs.Common.{◌≡◌, length}
use Rattle.ts_question.specs.Reply.{is_distinct}
use Rattle.ts_question.proofs.ranges.is_distinct.Given as goal

abbrev pub invariant-loop-rest : goal.invariant-loop-rest
invariant-loop-rest l = is_distinct l.rest ≡ is_distinct l.places

abbrev pub decreases-loop-rest : goal.decreases-loop-rest
decreases-loop-rest l = length l.rest
