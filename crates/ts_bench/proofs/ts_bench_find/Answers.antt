use Rattle.std.proofs.Common.{sym, ap, ◌∙◌}
use Rattle.ts_bench.specs.Told.{is_listed}
use Rattle.ts_crl.proofs.Finds.{some-found}
use Rattle.ts_crl.specs.Entries.{entries_of, has_serial}
use Rattle.ts_crl.specs.EntryView.{entry_in}
use Rattle.ts_crl.specs.ListView.{crl_in}
use Rattle.ts_bench.proofs.ts_bench_find.Goals as goal

pub returns-in-Ok : goal.returns-in-Ok
returns-in-Ok c =
    c.is_some.ensures
    ∙ (some-found entry_in c.entry.result (has_serial c.args.serial.now) (entries_of (crl_in c.in-Ok.crl)) c.entry.ensures.first
    ∙ sym (ap (is_listed c.args.serial.now) c.in-Ok.ensures.exact))
