use Rattle.std.proofs.Common.{◌≡◌, length}
use Rattle.ts_pem.specs.Files.{has_begin}
use Rattle.ts_pem.proofs.files.is_pem.Given as goal

abbrev pub invariant-loop-others : goal.invariant-loop-others
invariant-loop-others l = has_begin l.fn.octets ≡ has_begin l.rest

abbrev pub decreases-loop-others : goal.decreases-loop-others
decreases-loop-others l = length l.rest
