use Rattle.ts_record.proofs.Records.{rests_view, any_view, moves_view, opens_view}
use Rattle.ts_record.proofs.record.Record.append.Goals as goal

pub returns-then-is_empty-clause-moments : goal.returns-then-is_empty-clause-moments
returns-then-is_empty-clause-moments g c = λ whole.
    let r = c.self.inside in
    rests_view g.D.Disk.state g.D.Disk.lawful g.C.Codec.octets r.ledger c.args.facts.now r.broken c.args.self.now c.self.view_is (c.self.invariant c.if-self.false)

pub returns-then-is_empty-clause-opens : goal.returns-then-is_empty-clause-opens
returns-then-is_empty-clause-opens g c =
    let r = c.self.inside in
    any_view g.D.Disk.state g.D.Disk.lawful g.C.Codec.octets r.ledger r.broken c.args.self.now c.self.view_is (c.self.invariant c.if-self.false)

pub returns-clause-moments : goal.returns-clause-moments
returns-clause-moments g c = λ whole.
    let r = c.self.inside in
    moves_view g.D.Disk.state g.D.Disk.lawful g.C.Codec.octets r.ledger c.append-answer.new.c.journal c.args.facts.now r.broken c.args.self.now c.self.view_is c.append-answer.ensures.moments

pub returns-clause-opens : goal.returns-clause-opens
returns-clause-opens g c =
    opens_view g.D.Disk.state g.D.Disk.lawful g.C.Codec.octets c.append-answer.new.c c.append-answer.result c.append-answer.ensures.keeps
