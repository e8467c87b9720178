use Rattle.std.proofs.Common.{◌≡◌, length}
use Rattle.ts_pem.specs.Pem.{without_blanks}
use Rattle.ts_pem.proofs.line.trim.Given as goal

abbrev pub invariant-loop-rest : goal.invariant-loop-rest
invariant-loop-rest l = without_blanks l.fn.line ≡ without_blanks l.rest

abbrev pub decreases-loop-rest : goal.decreases-loop-rest
decreases-loop-rest l = length l.rest
