-- Each word makes what is left shorter.
use Rattle.std.proofs.Common.{length}
use Rattle.ts_recent.proofs.fingerprint.fingerprint.Given as goal

abbrev pub decreases-loop-rest : goal.decreases-loop-rest
decreases-loop-rest l = length l.rest
