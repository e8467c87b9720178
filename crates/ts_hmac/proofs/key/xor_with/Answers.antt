use Rattle.std.proofs.Common.{◌∙◌, arith, bit_xor}
use Rattle.std.proofs.lemmas.List.{length-set}
use Rattle.ts_hmac.proofs.Pads.{all_done, one_more}
use Rattle.ts_hmac.proofs.key.xor_with.Goals as goal

pub loop-i-preserved : goal.loop-i-preserved
loop-i-preserved c = record {
  so = one_more (λ octet. bit_xor octet c.args.pad) c.loop-i.out c.args.block.now c.loop-i.i
      (omega arith) (omega (arith, c.told-block)) c.loop-i.invariant.so;
  long = length-set c.loop-i.out c.loop-i.i _ ∙ c.loop-i.invariant.long;
}

pub returns : goal.returns
returns c =
    all_done (λ octet. bit_xor octet c.args.pad) c.loop-i.out c.args.block.now c.loop-i.i
    c.loop-i.invariant.so (omega (arith, c.loop-i.invariant.long)) (omega (arith, c.told-block))
