use Rattle.std.proofs.Common.{◌≡◌, ◌^◌, ◌%◌, ◌∙◌, arith, refl}
use Rattle.ts_bignum.specs.Limbs.{value}
use Rattle.ts_bignum.proofs.LimbLemmas.{value-parity}
use Rattle.ts_rsa.specs.Octets.{os2ip, i2osp}
use Rattle.ts_rsa.proofs.opened.write_opened.Goals as goal

pub power_mod-requires-clause-odd : goal.power_mod-requires-clause-odd
power_mod-requires-clause-odd c =
    omega (
      arith,
      value-parity c.write_limbs.new.limbs c.div_ceil-len.result (omega arith),
      c.write_limbs.ensures,
      c.requires.odd,
    )

pub returns-clause-opened : goal.returns-clause-opened
returns-clause-opened c =
    let x = os2ip c.args.signature.now ^ c.args.exponent in
    let n = os2ip c.args.modulus.now in
    let opened : value c.power_mod.new.answer c.div_ceil-len.result ≡ x % n =
    c.power_mod.ensures
    ∙ (λ j. c.write_limbs-2.ensures j ^ c.args.exponent % c.write_limbs.ensures j) in
    λ t. c.write_octets.ensures ∙ (λ j. i2osp (opened j) (c.requires.octets_whole j))

pub returns-clause-below : goal.returns-clause-below
returns-clause-below c =
    let below = c.is_less.ensures.0 c.if-not-is_less.false in
    ((λ t. omega (arith, below, c.write_limbs.ensures, c.write_limbs-2.ensures)), (λ h. refl))
