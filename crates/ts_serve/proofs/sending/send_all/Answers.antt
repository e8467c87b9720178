-- Not all of a frame was written.
use Rattle.std.proofs.lemmas.Result.{err_from_is_err_and}
use Rattle.ts_serve.proofs.Writing.{front_at}
use Rattle.ts_serve.proofs.sending.send_all.Goals as goal

pub returns-in_err-send_borrowed-clause-front : goal.returns-in_err-send_borrowed-clause-front
returns-in_err-send_borrowed-clause-front g c =
    let p = err_from_is_err_and c.from_residual.result c.from_residual.ensures.1 in
    rw p.1 (front_at _ _ _ c.args.frames.now c.loop-frame.frame-index c.frame-item.result c.loop-frame-test.true c.frame-item.is c.loop-frame.invariant c.in_err-send_borrowed.ensures.front)
