use Rattle.ts_journal.specs.Settled.{member_in}
use Rattle.ts_record.proofs.Ledgers.{to_force}
use Rattle.ts_record.proofs.ledger.step.Goals as goal

pub returns-in_err-copy-in-Copying-clause-moments : goal.returns-in_err-copy-in-Copying-clause-moments
returns-in_err-copy-in-Copying-clause-moments g c =
    let old = c.args.c.now in
    to_force g.D.Disk.state g.D.Disk.lawful g.C.Codec.octets old.journal c.copy.new.c.journal (member_in old.journal) old.journal.swapped old.facts.items c.copy.ensures.moments
