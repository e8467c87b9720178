use Rattle.std.proofs.Common.{eqb, subst, ap, ◌∙◌}
use Rattle.std.specs.List.{list_any}
use Rattle.std.specs.List.Sorted.{IsBinarySearchResult}
use Rattle.std.specs.Ordering.{nat_cmp}
use Rattle.ts_crl.proofs.Ends.{is-there}
use Rattle.ts_crl.proofs.endings.Endings.contains.Goals as goal

pub returns : goal.returns
returns c =
    let xs = c.args.self.now.sorted.items in
    let found = subst (λ ns. IsBinarySearchResult (λ y. nat_cmp y c.ending.result) ns c.binary_search.result) c.deref.ensures.value c.binary_search.ensures.position in
    c.is_ok.ensures.value ∙ (is-there xs c.ending.result c.binary_search.result c.args.self.now.ascending found ∙ ap (λ n. list_any (eqb n) xs) c.ending.ensures)
