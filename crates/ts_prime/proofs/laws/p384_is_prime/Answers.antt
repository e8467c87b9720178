use Rattle.ts_prime.specs.Primes.{p384}
use Rattle.ts_prime.proofs.Lucas.{prime_from}
use Rattle.ts_prime.proofs.P384.{p384-field}
use Rattle.ts_prime.proofs.laws.p384_is_prime.Goals as goal

pub returns : goal.returns
returns c = record { prime = prime_from p384 p384-field; field = p384-field }
