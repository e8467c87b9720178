use Rattle.ts_name.specs.NameView.{rdns_in}
use Rattle.std.proofs.Common.{map}
use Rattle.ts_question.specs.RowView.{anchor_line}
use Rattle.ts_sent.proofs.Rows.{is_above}
use Rattle.ts_sent.proofs.above.above_in.Goals as goal

pub returns-in-Some : goal.returns-in-Some
returns-in-Some c =
    let found = rw c.in-Some.is at c.in_ok-row.ensures.found in
    let only = rw c.in-Some.is at c.in_ok-row.ensures.only in
    rw c.above_by.ensures
    (is_above (map rdns_in c.args.issuers.now) c.args.row.now (anchor_line c.in-Some.row) found only)
