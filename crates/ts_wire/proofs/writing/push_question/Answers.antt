use Rattle.std.proofs.Common.{◌<◌, ◌^◌, length, ap, arith}
use Rattle.ts_question.specs.Question.{question_encoding}
use Rattle.ts_wire.proofs.Lengths.{question_short}
use Rattle.ts_wire.proofs.writing.push_question.Goals as goal

pub push_blob32-requires : goal.push_blob32-requires
push_blob32-requires c =
    let short : length (question_encoding c.args.question.now) < 2 ^ 32 = question_short c.args.question.now c.target.ensures.fits in
    omega (arith, short, ap length c.as_slice.ensures.value, ap length c.in_ok-octets.ensures)
