use Rattle.std.proofs.lemmas.Result.{err_from_is_err_and}
use Rattle.ts_codec.specs.Reading.{many_at, short_blob_at}
use Rattle.ts_codec.proofs.Loops.{goes_on, ends, is_done}
use Rattle.ts_question.proofs.reading.certificates_of.Goals as goal

pub returns-in_err-content : goal.returns-in_err-content
returns-in_err-content c =
    let p = err_from_is_err_and c.from_residual.result c.from_residual.ensures.1 in
    rw (p.1, p.2) (ends (short_blob_at 65536) c.in_err-content.field-0.0 c.loop.strings c.args.count
    c.loop.counter c.loop.rest.now (many_at (short_blob_at 65536) c.args.count c.args.octets.now)
    c.loop-test.true c.in_err-content.ensures c.loop.invariant)

pub loop-preserved : goal.loop-preserved
loop-preserved c = rw c.in_ok-push_copy.ensures.pushed
    (goes_on (short_blob_at 65536) c.loop.strings c.args.count c.loop.counter c.loop.rest.now
    c.in_ok-content.content.now c.in_ok-content.after.now
    (many_at (short_blob_at 65536) c.args.count c.args.octets.now) c.loop-test.true
    c.in_ok-content.ensures c.loop.invariant)

pub returns : goal.returns
returns c = is_done (short_blob_at 65536) c.loop.strings c.args.count c.loop.counter c.loop.rest.now (many_at (short_blob_at 65536) c.args.count c.args.octets.now) c.loop-test.false c.loop.invariant
