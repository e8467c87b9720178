-- Frames are taken and answered, up to a fault or to less than a whole frame.
use Rattle.std.proofs.Common.{refl, inl}
use Rattle.std.proofs.lemmas.Result.{err_from_is_err_and}
use Rattle.ts_serve.proofs.Steps.{cut_here, drained, frame_served, frame_stopped, nothing_served, refused, served_on, stopped_on}
use Rattle.ts_serve.proofs.serving.drain.Goals as goal

pub loop-frame-init : goal.loop-frame-init
loop-frame-init g c = record { served = nothing_served _ c.args.feed.now c.args.server.now (g.W.Write.contents c.args.writer.now); sound = c.requires }

pub loop-frame-preserved : goal.loop-frame-preserved
loop-frame-preserved g c =
    let taken = rw c.in-Ok-Some.field-0-is at c.in-Ok-Some.ensures.frame in
    record {
      served = served_on _ c.args.feed.now c.loop-frame.feed c.take.new.self c.args.server.now
          c.loop-frame.server c.answer.new.self (g.W.Write.contents c.args.writer.now)
          (g.W.Write.contents c.loop-frame.writer) (g.W.Write.contents c.answer.new.writer)
          c.loop-frame.invariant.served
          (frame_served _ c.loop-frame.feed c.take.new.self c.loop-frame.server c.answer.new.self
          c.in-Ok-Some.frame (g.W.Write.contents c.loop-frame.writer)
          (g.W.Write.contents c.answer.new.writer) taken.0 taken.1
          c.in_ok-answer-in-Ok-Some.ensures.answers);
      sound = c.answer.ensures.ready;
    }

pub returns-in_err-answer-in-Ok-Some-clause-drains : goal.returns-in_err-answer-in-Ok-Some-clause-drains
returns-in_err-answer-in-Ok-Some-clause-drains g c =
    let p = err_from_is_err_and c.from_residual.result c.from_residual.ensures.1 in
    let taken = rw c.in-Ok-Some.field-0-is at c.in-Ok-Some.ensures.frame in
    rw (p.1, p.2) (stopped_on _ c.args.feed.now c.loop-frame.feed _ c.args.server.now
    c.loop-frame.server c.answer.new.self (g.W.Write.contents c.args.writer.now)
    (g.W.Write.contents c.loop-frame.writer) (g.W.Write.contents c.answer.new.writer)
    c.loop-frame.invariant.served
    (frame_stopped _ c.loop-frame.feed c.take.new.self c.loop-frame.server c.answer.new.self
    c.in-Ok-Some.frame _ (g.W.Write.contents c.loop-frame.writer)
    (g.W.Write.contents c.answer.new.writer) taken.0 taken.1
    c.in_err-answer-in-Ok-Some.ensures.answers))

pub returns-in-Ok-None-clause-drains : goal.returns-in-Ok-None-clause-drains
returns-in-Ok-None-clause-drains g c =
    let left = rw c.in-Ok-None.field-0-is at c.in-Ok-None.ensures.partial in
    drained _ c.args.feed.now c.loop-frame.feed c.take.new.self c.args.server.now
    c.loop-frame.server (g.W.Write.contents c.args.writer.now)
    (g.W.Write.contents c.loop-frame.writer) (g.W.Write.contents c.flush.new.writer) c.flush.result
    c.loop-frame.invariant.served left.0 left.1 c.flush.ensures.same c.flush.ensures.fault

pub returns-in-Err-Frame-clause-drains : goal.returns-in-Err-Frame-clause-drains
returns-in-Err-Frame-clause-drains g c =
    let wrong = rw c.in-Err-Frame.field-0-is at c.in-Err-Frame.ensures.wrong in
    stopped_on _ c.args.feed.now c.loop-frame.feed c.refuse.result c.args.server.now
    c.loop-frame.server c.loop-frame.server (g.W.Write.contents c.args.writer.now)
    (g.W.Write.contents c.loop-frame.writer) (g.W.Write.contents c.refuse.new.writer)
    c.loop-frame.invariant.served
    (refused _ c.loop-frame.feed c.loop-frame.server c.loop-frame.server c.in-Err-Frame.fault
    c.refuse.result (g.W.Write.contents c.loop-frame.writer)
    (g.W.Write.contents c.refuse.new.writer) (inl wrong.0) refl c.refuse.ensures)

pub returns-in-Err-Memory-clause-drains : goal.returns-in-Err-Memory-clause-drains
returns-in-Err-Memory-clause-drains g c =
    cut_here _ c.args.feed.now c.loop-frame.feed c.args.server.now c.loop-frame.server (g.W.Write.contents c.args.writer.now) (g.W.Write.contents c.loop-frame.writer) c.loop-frame.invariant.served
