use Rattle.std.proofs.Common.{length}
use Rattle.ts_der.specs.Element.{inside}
use Rattle.ts_der.specs.View.{now}
use Rattle.ts_extensions.proofs.Walked.{Walked}
use Rattle.ts_extensions.proofs.checked_extensions.walk.Given as goal

abbrev pub invariant-loop-rest : goal.invariant-loop-rest
invariant-loop-rest l = Walked l.holder (inside (now l.list)) l.rest l.found.fault l.found.have_ends_of_their_own l.ends

abbrev pub decreases-loop-rest : goal.decreases-loop-rest
decreases-loop-rest l = length l.rest.rest
