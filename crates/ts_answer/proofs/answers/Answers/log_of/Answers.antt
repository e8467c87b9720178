use Rattle.std.proofs.Common.{◌≡◌, ◌∙◌, List, ℕ, map, take, length, ap, subst, arith, length-take}
use Rattle.std.specs.Prelude.{IfOk}
use Rattle.ts_question.specs.Rows.{command_encoding}
use Rattle.ts_listing.specs.Log.{log_rows}
use Rattle.ts_listing.specs.Page.{page}
use Rattle.ts_listing.specs.View.{line_in}
use Rattle.ts_answer.specs.Held.{TrustStore}
use Rattle.ts_answer.proofs.Entries.{are_counted, first_rows}
use Rattle.ts_answer.proofs.Pages.{log_page_in_range}
use Rattle.ts_answer.proofs.answers.Answers.log_of.Goals as goal

pub slice_bounds-log_page-end : goal.slice_bounds-log_page-end
slice_bounds-log_page-end g c =
    let counted = are_counted c.self.inside.log.items c.self.inside.history c.self.invariant.1 in
    let commands = ap (λ (h : TrustStore g.row.S.Denot). length h.commands) c.self.view_is in
    let whole = ap length c.deref.ensures.value in
    omega (arith, length-take c.args.k c.deref.result.now, counted, commands, whole)

pub returns-clause-page : goal.returns-clause-page
returns-clause-page g c =
    let rows : map command_encoding (map line_in (take c.args.k c.deref.result.now)) ≡ log_rows (take c.args.k c.self.inside.history) =
    ap (λ l. map command_encoding (map line_in (take c.args.k l))) c.deref.ensures.value
    ∙ first_rows c.self.inside.log.items c.self.inside.history c.args.k c.self.invariant.1 in
    let all = ap (λ (h : TrustStore g.row.S.Denot). log_rows (take c.args.k h.commands)) c.self.view_is in
    subst (λ (l : List (List ℕ)). IfOk c.log_page.result (λ reply. reply ≡ page c.args.from l)) (rows ∙ all) c.log_page.ensures

pub returns-clause-within : goal.returns-clause-within
returns-clause-within g c =
    let rows : map command_encoding (map line_in (take c.args.k c.deref.result.now)) ≡ log_rows (take c.args.k c.self.inside.history) =
    ap (λ l. map command_encoding (map line_in (take c.args.k l))) c.deref.ensures.value
    ∙ first_rows c.self.inside.log.items c.self.inside.history c.args.k c.self.invariant.1 in
    log_page_in_range c.log_page.result c.args.from c.args.k c.self.inside.history c.self.invariant.2
    (subst (λ (l : List (List ℕ)). IfOk c.log_page.result (λ reply. reply ≡ page c.args.from l)) rows c.log_page.ensures)
