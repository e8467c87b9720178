use Rattle.std.proofs.Common.{◌∙◌, ap, subst, length, rules}
use Rattle.std.specs.Ordering.{nat_cmp}
use Rattle.std.specs.Cmp.Lexicographic.{slice_cmp}
use Rattle.std.specs.List.Sorted.{IsBinarySearchResult, IsSearchInRange}
use Rattle.std.proofs.lemmas.List.Sorted.{answers_always}
use Rattle.ts_policy.specs.Labels.{has}
use Rattle.ts_policy.proofs.Sorted.{searched}
use Rattle.ts_policy.proofs.labels.Labels.contains.Goals as goal

pub returns : goal.returns
returns c =
    let xs = c.self.inside.sorted.items in
    let x = c.args.label in
    let d = c.deref.ensures.value in
    let facts = c.binary_search_by_key.ensures in
    let by_key = facts.position (λ p. p.content) (answers_always _ _ _ (λ f a r g called. search rules)) in
    let range = subst (λ xs. IsSearchInRange c.binary_search_by_key.result (length xs)) d facts.bound in
    let found = subst (λ xs. IsBinarySearchResult (λ y. slice_cmp nat_cmp y.content.now x.content.now) xs c.binary_search_by_key.result) d by_key in
    c.is_ok.ensures.value ∙ searched (λ x. x.content.now) xs x c.binary_search_by_key.result c.self.invariant range found ∙ ap (λ ps. has ps x.content.now) c.self.view_is
