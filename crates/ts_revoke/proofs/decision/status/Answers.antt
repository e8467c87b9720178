use Rattle.std.proofs.Common.{◌∙◌}
use Rattle.ts_revoke.specs.View.{question_of}
use Rattle.ts_revoke.proofs.ByList.{whole}
use Rattle.ts_revoke.proofs.decision.status.Goals as goal

pub returns : goal.returns
returns g c =
    c.by_lists.ensures
    ∙ whole (question_of c.args.crls.now c.args.cert.now c.args.issuer.now c.args.moment (g.S.SignatureCheck.accepts c.args.check.now) c.args.use_deltas)
