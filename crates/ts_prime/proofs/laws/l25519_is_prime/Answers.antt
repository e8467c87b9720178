use Rattle.ts_prime.specs.Primes.{l25519}
use Rattle.ts_prime.proofs.Lucas.{prime_from}
use Rattle.ts_prime.proofs.L25519.{l25519-field}
use Rattle.ts_prime.proofs.laws.l25519_is_prime.Goals as goal

pub returns : goal.returns
returns c = record { prime = prime_from l25519 l25519-field; field = l25519-field }
