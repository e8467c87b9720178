use Rattle.ts_ring.proofs.Ring.{ring}
use Rattle.ts_ring.proofs.laws.same_polynomials.Goals as goal

pub returns : goal.returns
returns c = ring
