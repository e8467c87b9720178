use Rattle.ts_revoke.specs.View.{question_in}
use Rattle.ts_revoke.proofs.Looking.{looked_new}
use Rattle.ts_revoke.proofs.decision.by_lists.Goals as goal

pub own_pass-own-requires : goal.own_pass-own-requires
own_pass-own-requires g c = record { looked = looked_new (question_in c.args.q.now (g.S.SignatureCheck.accepts c.args.check.now)) c.args.q.now.crls.now.lists.now 1024 }
