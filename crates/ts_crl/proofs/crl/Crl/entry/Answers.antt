use Rattle.ts_crl.specs.Entries.{entries_of, has_serial}
use Rattle.ts_crl.specs.EntryView.{entry_in}
use Rattle.ts_crl.specs.ListView.{crl_in}
use Rattle.ts_crl.proofs.Finds.{found-if-any}
use Rattle.ts_crl.proofs.crl.Crl.entry.Goals as goal

pub returns-clause-absent : goal.returns-clause-absent
returns-clause-absent c = found-if-any entry_in c.find_entry.result (has_serial c.args.serial.octets.now) (entries_of (crl_in c.args.self)) c.find_entry.ensures
