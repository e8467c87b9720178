-- The messages were given, and their count.
use Rattle.std.proofs.Common.{refl, ◌∷◌, []}
use Rattle.std.proofs.lemmas.Result.{err_from_is_err_and}
use Rattle.ts_wire.specs.declared.frame.Frame.TheVariants.{Done}
use Rattle.ts_serve.proofs.Saying.{all_given, said_last, said_part}
use Rattle.ts_serve.proofs.server.Server.give.Goals as goal

pub returns-in_err-given-clause-said : goal.returns-in_err-given-clause-said
returns-in_err-given-clause-said g c =
    let p = err_from_is_err_and c.from_residual.result c.from_residual.ensures.1 in
    rw (p.1, p.2) (said_part _ _ _ c.frames-frames.result.now (Done _ ∷ []) _ _
    (record {
      said = all_given c.frames-frames.result.now c.args.self.now.outbox
          c.frames-frames.ensures.frames c.frames-frames.ensures.count;
      outbox =
          c.clear.ensures;
      node = refl;
      staged = refl;
      failed = refl;
    })
    c.in_err-given.ensures.front c.in_err-given.ensures.fault)

pub returns-clause-said : goal.returns-clause-said
returns-clause-said g c =
    said_last _ _ _ c.frames-frames.result.now (Done _ ∷ []) c.send.result _ _
    (record {
      said = all_given c.frames-frames.result.now c.args.self.now.outbox
          c.frames-frames.ensures.frames c.frames-frames.ensures.count;
      outbox =
          c.clear.ensures;
      node = refl;
      staged = refl;
      failed = refl;
    })
    c.in_ok-given.ensures.sent c.send.ensures.sent c.send.ensures.front c.send.ensures.fault
