use Rattle.std.proofs.Common.{◌≡◌, length}
use Rattle.ts_name.specs.inside.Gaps.{without_gaps}
use Rattle.ts_name.proofs.folded.FoldedTextIterator.next.Given as goal

abbrev pub invariant-loop-self : goal.invariant-loop-self
invariant-loop-self l = without_gaps l.self.rest.now ≡ without_gaps l.initial.self.rest.now

abbrev pub decreases-loop-self : goal.decreases-loop-self
decreases-loop-self l = length l.self.rest.now
