use Rattle.ts_prime.specs.Primes.{p25519}
use Rattle.ts_prime.proofs.Lucas.{prime_from}
use Rattle.ts_prime.proofs.P25519.{p25519-field}
use Rattle.ts_prime.proofs.laws.p25519_is_prime.Goals as goal

pub returns : goal.returns
returns c = record { prime = prime_from p25519 p25519-field; field = p25519-field }
