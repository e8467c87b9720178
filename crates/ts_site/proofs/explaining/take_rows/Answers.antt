-- There may be more anchors behind the rows.
use Rattle.std.proofs.Common.{ℕ, List, Option, map, subst}
use Rattle.std.proofs.lemmas.Result.{IfOk-weaker}
use Rattle.ts_sent.specs.Sent.{IsNearest, issuers_of}
use Rattle.ts_site.specs.Explaining.{IsPassed}
use Rattle.ts_site.proofs.Rows.{takes_more}
use Rattle.ts_site.proofs.explaining.take_rows.Goals as goal

pub returns-in-Some : goal.returns-in-Some
returns-in-Some c =
    let e = c.args.explaining in
    let rows = map (λ row. row.items) c.args.rows.now in
    let nearest = subst (λ (sent : List (List ℕ)). IsNearest (issuers_of sent) e.found rows c.in_ok-found.found)
    c.sent_in-sent.ensures c.in_ok-found.ensures in
    let passed = subst (λ (from : Option ℕ). IsPassed e c.args.total rows from) c.in-Some.is c.in_ok-from.ensures in
    IfOk-weaker c.ask_rows.result _ _
    (λ next asks. takes_more e c.args.total rows c.in_ok-found.found c.in-Some.from next nearest passed asks)
    c.ask_rows.ensures
