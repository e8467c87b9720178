use Rattle.std.proofs.Common.{arith}
use Rattle.ts_serve.proofs.Exchanges.{delivered, not_one, one_frame}
use Rattle.ts_serve.proofs.carrying.is_delivered.Goals as goal

pub returns-in-len1 : goal.returns-in-len1
returns-in-len1 c =
    delivered c.args.frames.now c.frame-item.result c.is_reply.result
    (one_frame c.args.frames.now c.frame-item.result c.in-len1.len_at_least c.in-len1.len_below c.frame-item.is) c.is_reply.ensures

pub returns-in_default : goal.returns-in_default
returns-in_default c = not_one c.args.frames.now (λ one. omega (arith, one))
