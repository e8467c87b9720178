use Rattle.std.proofs.Common.{◌++◌, ◌∙◌, List, ℕ, ap}
use Rattle.std.specs.List.{list_all}
use Rattle.std.proofs.lemmas.Result.{on_ok_weaker}
use Rattle.ts_line.specs.Lines.{is_printable}
use Rattle.ts_line.proofs.Listed.{some_listed}
use Rattle.ts_line.proofs.scope.write_items.Goals as goal

pub returns-in-len1-up : goal.returns-in-len1-up
returns-in-len1-up c =
    let xs = c.as_slice.result.now in
    let printable = ap (list_all is_printable) c.as_slice.ensures.octets ∙ c.as_slice.ensures.printable in
    on_ok_weaker c.shown.result
    (λ written list is. written ∙ ap (λ (t : List ℕ). c.args.line.now ++ t) (some_listed list xs c.in-len1-up.len_at_least printable (c.as_slice.ensures.octets ∙ is)))
    c.shown.ensures
