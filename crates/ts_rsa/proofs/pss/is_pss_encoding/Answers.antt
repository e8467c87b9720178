use Rattle.std.proofs.Common.{arith}
use Rattle.ts_rsa.specs.Pss.{salt_in}
use Rattle.ts_rsa.proofs.pss.is_pss_encoding.Goals as goal

pub returns : goal.returns
unfolding salt_in
returns c =
    let written = c.write_data_block.ensures in (
      (λ t. let o = c.is_opened.ensures.0 t in record {
        long_enough = omega (arith, c.size_of_hash-size.ensures.value);
        trailer = c.if-em.false;
        first_octet = omega (arith, c.first_limit.ensures.value);
        block = rw written at o.0;
        hashed = rw written at o.1;
      }),
      (λ e. c.is_opened.ensures.1 (rw written e.block, rw written e.hashed)),
    )
