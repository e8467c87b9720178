use Rattle.ts_journal.specs.Settled.{member_in}
use Rattle.std.proofs.Common.{[], ap}
use Rattle.ts_record.specs.Rewrite.{begun, copying, rewrite_at}
use Rattle.ts_record.proofs.Ledgers.{from_bodies, under, keeps_as, starts_copying}
use Rattle.ts_record.proofs.ledger.begin.Goals as goal

pub returns-in_err-begin-clause-moments : goal.returns-in_err-begin-clause-moments
returns-in_err-begin-clause-moments g c =
    let old = c.args.c.now in
    let k = c.requires.keeps in
    from_bodies g.D.Disk.state g.D.Disk.lawful g.C.Codec.octets old.journal c.begin.new.self (member_in old.journal) old.journal.swapped k.0 old.facts.items k.3 (c.begin.ensures.moments k.0 k.1 k.2)

pub returns-clause-keeps : goal.returns-clause-keeps
returns-clause-keeps g c =
    let old = c.args.c.now in
    let k = c.requires.keeps in
    let list = old.copy.items in
    let way = under g.D.Disk.state g.D.Disk.lawful g.C.Codec.octets old k (begun list) (ap (λ s. rewrite_at s list old.done) c.requires.begun) in
    keeps_as g.D.Disk.state g.D.Disk.lawful g.C.Codec.octets c.begin.new.self old.facts.items
    (rewrite_at c.begin.new.self.stage list 0) k.0 [] (copying list 0)
    (c.in_ok-begin.ensures.holds k.0 k.1 k.2) k.3
    (ap (λ s. rewrite_at s list 0) c.in_ok-begin.ensures.stage)
    (starts_copying g.D.Disk.state g.D.Disk.lawful g.C.Codec.octets old.facts.items list k.1 way)

pub returns-clause-moments : goal.returns-clause-moments
returns-clause-moments g c =
    let old = c.args.c.now in
    let k = c.requires.keeps in
    from_bodies g.D.Disk.state g.D.Disk.lawful g.C.Codec.octets old.journal c.begin.new.self (member_in old.journal) old.journal.swapped k.0 old.facts.items k.3 (c.begin.ensures.moments k.0 k.1 k.2)
