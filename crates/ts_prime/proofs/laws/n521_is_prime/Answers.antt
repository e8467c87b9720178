use Rattle.ts_prime.specs.Primes.{n521}
use Rattle.ts_prime.proofs.Lucas.{prime_from}
use Rattle.ts_prime.proofs.N521.{n521-field}
use Rattle.ts_prime.proofs.laws.n521_is_prime.Goals as goal

pub returns : goal.returns
returns c = record { prime = prime_from n521 n521-field; field = n521-field }
