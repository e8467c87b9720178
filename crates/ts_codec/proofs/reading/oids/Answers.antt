use Rattle.std.proofs.lemmas.Result.{err_from_is_err_and}
use Rattle.ts_codec.specs.Reading.{many_at}
use Rattle.ts_codec.specs.Reading.{oid_at}
use Rattle.ts_codec.proofs.Loops.{goes_on, ends, is_done}
use Rattle.ts_codec.proofs.reading.oids.Goals as goal

pub returns-in_err-oid : goal.returns-in_err-oid
returns-in_err-oid c =
    let p = err_from_is_err_and c.from_residual.result c.from_residual.ensures.1 in
    rw (p.1, p.2) (ends oid_at c.in_err-oid.field-0.0 c.loop.oids.items c.args.count c.loop.counter
    c.loop.rest.now (many_at oid_at c.args.count c.args.octets.now) c.loop-test.true
    c.in_err-oid.ensures c.loop.invariant)

pub loop-preserved : goal.loop-preserved
loop-preserved c = rw c.in_ok-push.ensures.items
    (goes_on oid_at c.loop.oids.items c.args.count c.loop.counter c.loop.rest.now c.in_ok-oid.oid
    c.in_ok-oid.after.now (many_at oid_at c.args.count c.args.octets.now) c.loop-test.true
    c.in_ok-oid.ensures c.loop.invariant)

pub returns : goal.returns
returns c = is_done oid_at c.loop.oids.items c.args.count c.loop.counter c.loop.rest.now (many_at oid_at c.args.count c.args.octets.now) c.loop-test.false c.loop.invariant
