use Rattle.ts_journal.specs.Settled.{member_in}
use Rattle.std.proofs.Common.{◌∙◌, ap}
use Rattle.ts_record.specs.Compacted.{compact}
use Rattle.ts_record.specs.Rewrite.{begun, rewrite_at}
use Rattle.ts_record.proofs.Ledgers.{from_bodies, rest_from, keeps_as, begins}
use Rattle.ts_record.proofs.ledger.shut.Goals as goal

pub returns-in_err-copy-clause-moments : goal.returns-in_err-copy-clause-moments
returns-in_err-copy-clause-moments g c = rest_from g.D.Disk.state g.D.Disk.lawful g.C.Codec.octets c.args.c.now c.requires.keeps

pub returns-in_err-shut-clause-moments : goal.returns-in_err-shut-clause-moments
returns-in_err-shut-clause-moments g c =
    let old = c.args.c.now in
    let k = c.requires.keeps in
    from_bodies g.D.Disk.state g.D.Disk.lawful g.C.Codec.octets old.journal c.shut.new.self (member_in old.journal) old.journal.swapped k.0 old.facts.items k.3 (c.shut.ensures.moments k.0 k.1 k.2)

pub returns-clause-keeps : goal.returns-clause-keeps
returns-clause-keeps g c =
    let old = c.args.c.now in
    let k = c.requires.keeps in
    let list = c.in_ok-copy.copy.items in
    keeps_as g.D.Disk.state g.D.Disk.lawful g.C.Codec.octets c.shut.new.self old.facts.items
    (rewrite_at c.shut.new.self.stage list old.done) k.0 k.1 (begun list)
    (c.in_ok-shut.ensures.holds k.0 k.1 k.2) k.3
    (ap (λ s. rewrite_at s list old.done) c.in_ok-shut.ensures.stage)
    (begins g.D.Disk.state g.D.Disk.lawful g.C.Codec.octets old list k (c.in_ok-copy.ensures ∙ ap (λ l. compact l) c.deref.ensures.value) k.1)

pub returns-clause-moments : goal.returns-clause-moments
returns-clause-moments g c =
    let old = c.args.c.now in
    let k = c.requires.keeps in
    from_bodies g.D.Disk.state g.D.Disk.lawful g.C.Codec.octets old.journal c.shut.new.self (member_in old.journal) old.journal.swapped k.0 old.facts.items k.3 (c.shut.ensures.moments k.0 k.1 k.2)
