-- What was handed on, by what the call did.
use Rattle.ts_access.proofs.Sieves.{sifted}
use Rattle.ts_access.proofs.sieve.Sieve.take.Goals as goal

pub returns-clause-is : goal.returns-clause-is
returns-clause-is c stream handed s =
    sifted c.args.self.now _ stream handed c.sift.result c.sift.ensures s
