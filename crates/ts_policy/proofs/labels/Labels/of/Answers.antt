use Rattle.std.proofs.Common.{sym, subst, rules}
use Rattle.std.specs.Prelude.{bytes_eq, map}
use Rattle.std.specs.Ordering.{nat_cmp}
use Rattle.std.specs.Cmp.Lexicographic.{slice_cmp}
use Rattle.std.specs.List.Sorted.{IsStrictlySortedBy}
use Rattle.std.proofs.lemmas.List.Filters.{dedup_is}
use Rattle.std.proofs.lemmas.List.Sorted.{answers_always}
use Rattle.ts_policy.specs.Labels.{In}
use Rattle.ts_policy.proofs.Sorted.{kept, strictly}
use Rattle.ts_policy.proofs.labels.Labels.of.Goals as goal

pub invariant_of-result : goal.invariant_of-result
invariant_of-result c =
    let is = dedup_is (λ x y. bytes_eq x.content.now y.content.now) c.sort_unstable_by_key.new.self.items c.dedup.new.self.items c.dedup.ensures.filtered in
    subst (IsStrictlySortedBy (λ x y. slice_cmp nat_cmp x.content.now y.content.now)) (sym is)
    (strictly (λ x. x.content.now) c.sort_unstable_by_key.new.self.items
    (c.sort_unstable_by_key.ensures.sorted (λ p. p.content)
    (answers_always _ _ _ (λ f a r g called. search rules))))

pub returns : goal.returns
returns c p =
    let is = dedup_is (λ x y. bytes_eq x.content.now y.content.now) c.sort_unstable_by_key.new.self.items c.dedup.new.self.items c.dedup.ensures.filtered in
    let k = kept (λ x. x.content.now) c.args.labels.items c.sort_unstable_by_key.new.self.items c.sort_unstable_by_key.ensures.permutation p in
    (λ h. k.0 (subst (λ xs. In p (map (λ x. x.content.now) xs)) is h), λ h. subst (λ xs. In p (map (λ x. x.content.now) xs)) (sym is) (k.1 h))
