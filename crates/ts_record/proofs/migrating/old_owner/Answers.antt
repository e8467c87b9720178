use Rattle.std.proofs.Common.{arith}
use Rattle.ts_record.proofs.Migration.{begins}
use Rattle.ts_record.proofs.migrating.old_owner.Goals as goal

pub returns : goal.returns
returns c = begins _ c.args.octets.now (omega (arith, c.if-node-lt1.false))
    (omega (arith, c.if-nodes-node.false)) (omega (arith, c.if-nodes-gt9.false))
    (c.is_same.ensures.equal c.if-not-is_same.false)
