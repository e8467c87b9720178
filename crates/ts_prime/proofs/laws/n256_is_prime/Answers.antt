use Rattle.ts_prime.specs.Primes.{n256}
use Rattle.ts_prime.proofs.Lucas.{prime_from}
use Rattle.ts_prime.proofs.N256.{n256-field}
use Rattle.ts_prime.proofs.laws.n256_is_prime.Goals as goal

pub returns : goal.returns
returns c = record { prime = prime_from n256 n256-field; field = n256-field }
