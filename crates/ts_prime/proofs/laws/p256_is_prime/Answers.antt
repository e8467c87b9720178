use Rattle.ts_prime.specs.Primes.{p256}
use Rattle.ts_prime.proofs.Lucas.{prime_from}
use Rattle.ts_prime.proofs.P256.{p256-field}
use Rattle.ts_prime.proofs.laws.p256_is_prime.Goals as goal

pub returns : goal.returns
returns c = record { prime = prime_from p256 p256-field; field = p256-field }
