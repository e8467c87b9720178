use Rattle.std.proofs.Common.{arith}
use Rattle.ts_ring.proofs.Fields.{nonzero}
use Rattle.ts_prime.specs.Primes.{n256, n384, n521}
use Rattle.ts_prime.proofs.N256.{n256-field}
use Rattle.ts_prime.proofs.N384.{n384-field}
use Rattle.ts_prime.proofs.N521.{n521-field}
use Rattle.ts_curve.proofs.laws.inverses.Goals as goal

pub returns-clause-p256 : goal.returns-clause-p256
returns-clause-p256 c s pos below =
    n256-field.inverts s (nonzero n256 s below (λ e. omega (arith, e, pos)))

pub returns-clause-p384 : goal.returns-clause-p384
returns-clause-p384 c s pos below =
    n384-field.inverts s (nonzero n384 s below (λ e. omega (arith, e, pos)))

pub returns-clause-p521 : goal.returns-clause-p521
returns-clause-p521 c s pos below =
    n521-field.inverts s (nonzero n521 s below (λ e. omega (arith, e, pos)))
