use Rattle.std.proofs.Common.{◌++◌, ◌∙◌, ap, length, List, ℕ}
use Rattle.std.specs.Fmt.{decimal}
use Rattle.std.specs.Prelude.{codes}
use Rattle.ts_name.specs.NameView.{rdns_in}
use Rattle.ts_line.specs.Names.{name_text}
use Rattle.ts_explain.proofs.Parts.{two_parts}
use Rattle.ts_judge.specs.Explained.{lists_words}
use Rattle.ts_judge.proofs.printed.valid_line.Goals as goal

pub returns : goal.returns
returns c =
    let count = length c.as_slice.result.now in
    let under = codes " under the trust anchor " in
    let name = name_text (rdns_in c.args.report.now.anchor.name) in
    let lists = lists_words c.args.report.now.has_lists in
    let last = two_parts _ _ _ name lists c.in_ok-write_name.ensures c.in_ok-write_lists.ensures in
    two_parts _ _ _ (decimal count) (under ++ (name ++ lists)) c.in_ok-number.ensures
    (two_parts _ _ _ under (name ++ lists) c.in_ok-text.ensures last)
    ∙ (ap (λ (t : List ℕ). t ++ (decimal count ++ (under ++ (name ++ lists)))) c.in_ok-line.ensures
    ∙ ap (λ (n : ℕ). codes "a chain of " ++ (decimal n ++ (under ++ (name ++ lists)))) (ap length c.as_slice.ensures.value))
