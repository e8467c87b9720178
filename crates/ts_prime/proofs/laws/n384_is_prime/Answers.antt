use Rattle.ts_prime.specs.Primes.{n384}
use Rattle.ts_prime.proofs.Lucas.{prime_from}
use Rattle.ts_prime.proofs.N384.{n384-field}
use Rattle.ts_prime.proofs.laws.n384_is_prime.Goals as goal

pub returns : goal.returns
returns c = record { prime = prime_from n384 n384-field; field = n384-field }
