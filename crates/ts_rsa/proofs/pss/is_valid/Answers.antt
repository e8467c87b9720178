use Rattle.std.proofs.Common.{◌≡◌, ◌-◌, ◌*◌, ◌%◌, ◌^◌, ◌<◌, length, get_or, sym, ap, ◌∙◌, arith}
use Rattle.std.proofs.Math.Nat.{one-le-pow}
use Rattle.std.proofs.lemmas.Bool.{eqb-true}
use Rattle.ts_rsa.specs.Octets.{os2ip, i2osp}
use Rattle.ts_rsa.specs.Key.{bit_length}
use Rattle.ts_rsa.specs.Pss.{octets_of_bits}
use Rattle.ts_rsa.proofs.BitLemmas.{few-zeros, some-octets}
use Rattle.ts_rsa.proofs.OpenedLemmas.{opened-fits, opened-split, first-of, first-zero, whole-octets, moved}
use Rattle.ts_rsa.proofs.pss.is_valid.Goals as goal

pub overflow_sub-bits : goal.overflow_sub-bits
overflow_sub-bits c =
    let key = c.is_key.ensures.0 c.if-not-is_key.false in
    let modulus = c.args.modulus.now in
    omega (
      arith,
      c.bits_of-bits.ensures,
      some-octets modulus key.leading,
      few-zeros (get_or modulus 0 0) key.leading (c.type_inv.modulus 0).fits,
    )

pub returns-then-bits-modulus : goal.returns-then-bits-modulus
returns-then-bits-modulus c =
    let a = c.args in
    let key = c.is_key.ensures.0 c.if-not-is_key.false in
    let modulus = a.modulus.now in
    let k = length modulus in
    let x = os2ip a.signature.now ^ a.exponent % os2ip modulus in
    let bits : c.bits_of-bits.result - 1 ≡ bit_length modulus - 1 =
    ap (λ z. z - 1) c.bits_of-bits.ensures in
    let few = few-zeros (get_or modulus 0 0) key.leading (c.type_inv.modulus 0).fits in
    let size : k ≡ octets_of_bits (bit_length modulus - 1) = omega (arith, few, bits) in
    let em = c.write_opened.ensures.opened c.if-not-write_opened.false ∙ ap (i2osp x) size in
    let fits : x < 256 ^ octets_of_bits (bit_length modulus - 1) =
    rw (← size) (opened-fits (os2ip a.signature.now ^ a.exponent) modulus (omega (arith, key.odd))
    (λ i. (c.type_inv.modulus i).fits)) in (
      (λ t. (
        key,
        record {
          whole = c.if-signature-modulus.false;
          representative = c.write_opened.ensures.below.0 c.if-not-write_opened.false;
          fits = fits;
          encoding = moved a.hash _ _ a.message.now.octets.now _ _ bits em (c.is_pss_encoding.ensures.0 t);
        },
      )),
      (λ p. c.is_pss_encoding.ensures.1
          (moved a.hash _ _ a.message.now.octets.now _ _ (sym bits) (sym em) p.1.encoding)),
    )

pub returns-then-first-eq0 : goal.returns-then-first-eq0
returns-then-first-eq0 c =
    let a = c.args in
    let key = c.is_key.ensures.0 c.if-not-is_key.false in
    let modulus = a.modulus.now in
    let k = length modulus in
    let x = os2ip a.signature.now ^ a.exponent % os2ip modulus in
    let bits : c.bits_of-bits.result - 1 ≡ bit_length modulus - 1 =
    ap (λ z. z - 1) c.bits_of-bits.ensures in
    let some = some-octets modulus key.leading in
    let few = few-zeros (get_or modulus 0 0) key.leading (c.type_inv.modulus 0).fits in
    let size : k - 1 ≡ octets_of_bits (bit_length modulus - 1) = omega (arith, few, bits, some) in
    let parts =
    opened-split x k _ some (c.write_opened.ensures.opened c.if-not-write_opened.false) in
    let w = 256 ^ (k - 1) in
    let positive : 0 < w = one-le-pow (k - 1) 256 (omega arith) in
    let below : x < w * 256 =
    omega (
      arith,
      opened-fits (os2ip a.signature.now ^ a.exponent) modulus (omega (arith, key.odd))
          (λ i. (c.type_inv.modulus i).fits),
      whole-octets k some,
    ) in
    let em = c.split_at.ensures.back ∙ parts.1 ∙ ap (i2osp x) size in
    let first = first-of _ _ c.split_at.ensures.front ∙ parts.0 in (
      (λ t. (
        key,
        record {
          whole = c.if-signature-modulus.false;
          representative = c.write_opened.ensures.below.0 c.if-not-write_opened.false;
          fits = rw (← size) ((first-zero x w positive below).0 (sym first ∙ c.if-first-eq0.true));
          encoding = moved a.hash _ _ a.message.now.octets.now _ _ bits em
              (c.is_pss_encoding-then-first-eq0.ensures.0 t);
        },
      )),
      (λ p. c.is_pss_encoding-then-first-eq0.ensures.1
          (moved a.hash _ _ a.message.now.octets.now _ _ (sym bits) (sym em) p.1.encoding)),
    )

pub returns-else-first-eq0 : goal.returns-else-first-eq0
returns-else-first-eq0 c =
    let a = c.args in
    let key = c.is_key.ensures.0 c.if-not-is_key.false in
    let modulus = a.modulus.now in
    let k = length modulus in
    let x = os2ip a.signature.now ^ a.exponent % os2ip modulus in
    let some = some-octets modulus key.leading in
    let few = few-zeros (get_or modulus 0 0) key.leading (c.type_inv.modulus 0).fits in
    let size : k - 1 ≡ octets_of_bits (bit_length modulus - 1) =
    omega (arith, few, c.bits_of-bits.ensures, some) in
    let parts =
    opened-split x k _ some (c.write_opened.ensures.opened c.if-not-write_opened.false) in
    let w = 256 ^ (k - 1) in
    let positive : 0 < w = one-le-pow (k - 1) 256 (omega arith) in
    let below : x < w * 256 =
    omega (
      arith,
      opened-fits (os2ip a.signature.now ^ a.exponent) modulus (omega (arith, key.odd))
          (λ i. (c.type_inv.modulus i).fits),
      whole-octets k some,
    ) in
    let first = first-of _ _ c.split_at.ensures.front ∙ parts.0 in (
      (λ t. absurd (c.if-first-eq0.false (eqb-true _ _ t))),
      (λ p. absurd (c.if-first-eq0.false
          (first ∙ (first-zero x w positive below).1 (rw size p.1.fits)))),
    )
