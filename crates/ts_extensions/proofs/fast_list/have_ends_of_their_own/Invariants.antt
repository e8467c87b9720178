use Rattle.std.proofs.Common.{length}
use Rattle.ts_extensions.proofs.ValidLists.{IsLeft}
use Rattle.ts_extensions.proofs.fast_list.have_ends_of_their_own.Given as goal

abbrev pub invariant-loop-rest : goal.invariant-loop-rest
invariant-loop-rest l = IsLeft l.content l.ends l.rest

abbrev pub decreases-loop-rest : goal.decreases-loop-rest
decreases-loop-rest l = length l.rest
