use Rattle.std.proofs.Common.{◌≡◌, List, ap, sym, subst, ◌∙◌, rules}
use Rattle.std.specs.Ordering.{nat_cmp, is_lt}
use Rattle.std.specs.Cmp.Lexicographic.{slice_cmp}
use Rattle.std.specs.List.Sorted.{IsSorted}
use Rattle.std.proofs.lemmas.Cmp.{nat_cmp_total, nat_list_cmp_total}
use Rattle.std.proofs.lemmas.Fn.{dedup_same}
use Rattle.std.proofs.lemmas.List.Sorted.{ranks_by, answers_always}
use Rattle.ts_constraint.specs.declared.ending.Ending.{Ending}
use Rattle.ts_constraint.specs.inside.Ending.{octets}
use Rattle.ts_constraint.specs.inside.Fronts.{has_front, AreApart}
use Rattle.ts_constraint.proofs.Fronts.{table-apart, table-same, without_fronted}
use Rattle.ts_constraint.proofs.endings.Endings.new.Goals as goal

pub invariant_of-result : goal.invariant_of-result
invariant_of-result c =
    let sorted : IsSorted (λ (a b : Ending). slice_cmp nat_cmp (octets a) (octets b)) c.sort_unstable_by.new.self.items =
    c.sort_unstable_by.ensures.sorted
    (λ (a b : Ending). is_lt (slice_cmp nat_cmp (octets a) (octets b)))
    (ranks_by nat_list_cmp_total octets)
    (answers_always _ _ _
    (λ f a r h k. let e : r ≡ slice_cmp nat_cmp (octets a.0.now) (octets a.1.0.now) =
    search rules in ap is_lt e)) in
    let items : c.dedup_by.new.self.items ≡ without_fronted nat_cmp octets c.sort_unstable_by.new.self.items = dedup_same _ _ _ (λ x y b f x' y' k. search rules) _ _ c.dedup_by.ensures.filtered in
    record { apart = subst (λ (xs : List Ending). AreApart nat_cmp octets xs) (sym items) (table-apart nat_cmp_total octets c.sort_unstable_by.new.self.items sorted) }

pub returns : goal.returns
returns c = λ item.
    let items : c.dedup_by.new.self.items ≡ without_fronted nat_cmp octets c.sort_unstable_by.new.self.items = dedup_same _ _ _ (λ x y b f x' y' k. search rules) _ _ c.dedup_by.ensures.filtered in
    ap (λ (xs : List Ending). has_front nat_cmp octets xs item) items
    ∙ table-same nat_cmp_total octets c.args.endings.items c.sort_unstable_by.new.self.items item c.sort_unstable_by.ensures.permutation
