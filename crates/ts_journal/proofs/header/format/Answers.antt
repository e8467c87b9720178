use Rattle.std.proofs.Common.{arith, drop}
use Rattle.ts_journal.proofs.Others.{formatted}
use Rattle.ts_journal.proofs.header.format.Goals as goal

pub returns-clause-opens : goal.returns-clause-opens
returns-clause-opens g c =
    let state = g.D.Disk.state in
    formatted state c.write_head.new.disk c.write_head-2.new.disk c.write_head-2.result c.args.node c.args.nodes c.args.group (drop 26 (state c.args.a.now).read) (drop 26 (state c.args.b.now).read)
    c.requires.node_from c.requires.node_to c.requires.nodes_to
    (grind arith) c.in_ok-write_head.ensures.durable c.in_ok-write_head.ensures.written
    c.write_head-2.ensures.durable c.write_head-2.ensures.written
