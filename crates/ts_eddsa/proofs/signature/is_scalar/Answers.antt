use Rattle.std.proofs.Common.{◌<◌, ltb}
use Rattle.std.proofs.lemmas.Bool.{ltb-true, lt-ltb}
use Rattle.ts_prime.specs.Primes.{l25519}
use Rattle.ts_curve.specs.Four.{number4}
use Rattle.ts_curve.proofs.Tests.{same_test}
use Rattle.ts_eddsa.proofs.signature.is_scalar.Goals as goal

pub returns : goal.returns
returns c =
    let s = number4 c.args.s.now in
    same_test c.is_less.result (ltb s l25519) (s < l25519)
    (rw c.prime.ensures at c.is_less.ensures) (ltb-true s l25519, lt-ltb s l25519)
