use Rattle.std.proofs.lemmas.Result.{err_from_is_err_and}
use Rattle.ts_make.specs.inside.TimeView.{time_octets}
use Rattle.ts_make.specs.CrlMade.{entry_octets}
use Rattle.ts_make.proofs.TooLong.{longer, pieces-front}
use Rattle.ts_make.proofs.crl_tbs.append_entries.Goals as goal

pub returns-in_err-append_entry-clause-exact : goal.returns-in_err-append_entry-clause-exact
returns-in_err-append_entry-clause-exact c =
    let p = err_from_is_err_and c.from_residual.result c.from_residual.ensures.1 in
    let h = rw c.loop-entry.invariant.written at c.in_err-append_entry.ensures.exact in
    let front = pieces-front (entry_octets (time_octets c.args.date.now)) c.args.octets.now.items c.args.entries.now c.loop-entry.entry-index _ c.loop-entry-test.true in
    rw (p.1, p.2) (longer c.in_err-append_entry.field-0.0 _ _ h front)
