use Rattle.std.proofs.Common.{◌≡◌, length}
use Rattle.ts_name.specs.Canon.{words}
use Rattle.ts_name.proofs.folded.FoldedText.new.Given as goal

abbrev pub invariant-loop-rest : goal.invariant-loop-rest
invariant-loop-rest l = words l.rest ≡ words l.text

abbrev pub decreases-loop-rest : goal.decreases-loop-rest
decreases-loop-rest l = length l.rest
