use Rattle.std.proofs.Common.{subst}
use Rattle.ts_record.specs.Rewrite.{IsLast}
use Rattle.ts_record.proofs.Records.{rest_force_view, rest_view, from_view, opens_view}
use Rattle.ts_record.proofs.record.Record.compact.Goals as goal

pub returns-then-self-2-clause-moments : goal.returns-then-self-2-clause-moments
returns-then-self-2-clause-moments g c = λ whole.
    let r = c.self.inside in
    rest_force_view g.D.Disk.state g.D.Disk.lawful g.C.Codec.octets r.ledger r.broken c.args.self.now c.self.view_is (c.self.invariant c.if-self.false)

pub returns-then-self-2-clause-from : goal.returns-then-self-2-clause-from
returns-then-self-2-clause-from g c = λ whole last.
    let r = c.self.inside in
    rest_view g.D.Disk.state g.D.Disk.lawful g.C.Codec.octets r.ledger r.broken c.args.self.now c.self.view_is (c.self.invariant c.if-self.false)

pub returns-clause-from : goal.returns-clause-from
returns-clause-from g c = λ whole last.
    let r = c.self.inside in
    from_view g.D.Disk.state g.D.Disk.lawful g.C.Codec.octets r.ledger c.step-answer.new.c.journal r.broken c.args.self.now c.self.view_is
    (c.step-answer.ensures.from (λ l. last (subst (λ v. IsLast v.rewrite) c.self.view_is l)))

pub returns-clause-opens : goal.returns-clause-opens
returns-clause-opens g c =
    opens_view g.D.Disk.state g.D.Disk.lawful g.C.Codec.octets c.step-answer.new.c c.step-answer.result c.step-answer.ensures.keeps
