-- What came, with the piece.
use Rattle.ts_access.proofs.Sieves.{received}
use Rattle.ts_access.proofs.sieve.Sieve.push.Goals as goal

pub returns-clause-is : goal.returns-clause-is
returns-clause-is c stream handed s =
    received c.args.self.now _ c.args.piece.now stream handed c.receive.result c.receive.ensures.came s
