use Rattle.ts_prime.specs.Primes.{p521}
use Rattle.ts_prime.proofs.Lucas.{prime_from}
use Rattle.ts_prime.proofs.P521.{p521-field}
use Rattle.ts_prime.proofs.laws.p521_is_prime.Goals as goal

pub returns : goal.returns
returns c = record { prime = prime_from p521 p521-field; field = p521-field }
