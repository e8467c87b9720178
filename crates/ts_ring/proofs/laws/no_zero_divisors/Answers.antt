use Rattle.ts_ring.proofs.Fields.{product-nonzero}
use Rattle.ts_ring.proofs.laws.no_zero_divisors.Goals as goal

pub returns : goal.returns
returns c = product-nonzero
