use Rattle.std.proofs.Common.{arith}
use Rattle.ts_rsa.proofs.OctetLemmas.{os2ip-parity}
use Rattle.std.proofs.lemmas.Bool.{eqb-true, eq-eqb}
use Rattle.ts_rsa.proofs.key.is_key.Goals as goal

pub returns-then-modulus-len-eq0 : goal.returns-then-modulus-len-eq0
returns-then-modulus-len-eq0 c =
    let p = os2ip-parity c.args.modulus.now (omega arith) in
    ((λ h. (cc)), (λ k. absurd (omega (arith, p, k.odd))))

pub returns : goal.returns
returns c =
    let p = os2ip-parity c.args.modulus.now (omega arith) in (
      (λ h. record {
        leading = omega arith;
        room = omega arith;
        min_bits = omega (arith, c.bits_of-bits.ensures);
        max_bits = omega (arith, c.bits_of-bits.ensures);
        odd = omega (arith, p);
        min_exponent = omega arith;
        max_exponent = omega arith;
        odd_exponent = eqb-true _ _ h;
      }),
      (λ k. eq-eqb _ _ k.odd_exponent),
    )
