use Rattle.std.proofs.Common.{◌∙◌, arith, length-set}
use Rattle.ts_answer.proofs.Purposes.{few, one_copied}
use Rattle.ts_answer.proofs.trusted.TrustedAnchor.of.Goals as goal

pub loop-number-preserved : goal.loop-number-preserved
loop-number-preserved c =
    let all = few c.args.stored.purposes.now c.in-Some.oids.now c.in-Some.ensures.oids c.in-Some.ensures.limits in
    let room = c.loop-number.invariant.room in
    let more = c.loop-number-test.true in
    record {
      copied = one_copied c.loop-number.contents c.in-Some.oids.now c.loop-number.number
          c.as_ref.result.content c.index-oids-number.result c.loop-number.invariant.copied
          (omega (arith, all, room, more)) more c.as_ref.ensures c.index-oids-number.is;
      room = length-set c.loop-number.contents c.loop-number.number c.as_ref.result.content ∙ room;
    }
