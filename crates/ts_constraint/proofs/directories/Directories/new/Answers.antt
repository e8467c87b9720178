use Rattle.std.proofs.Common.{◌≡◌, List, ap, sym, subst, ◌∙◌, rules}
use Rattle.std.specs.Ordering.{is_lt}
use Rattle.std.specs.Cmp.Lexicographic.{slice_cmp}
use Rattle.std.specs.List.Sorted.{IsSorted}
use Rattle.std.proofs.lemmas.Cmp.{lists_total}
use Rattle.std.proofs.lemmas.Fn.{dedup_same}
use Rattle.std.proofs.lemmas.List.Sorted.{ranks_by, answers_always}
use Rattle.ts_constraint.specs.declared.directory.Directory.{Directory}
use Rattle.ts_constraint.specs.inside.Directory.{compare_rdns}
use Rattle.ts_constraint.specs.inside.Directories.{form_in, has_directory}
use Rattle.ts_constraint.specs.inside.Fronts.{AreApart}
use Rattle.ts_constraint.proofs.DirectoryForms.{rdns-total}
use Rattle.ts_constraint.proofs.Fronts.{table-apart, table-same, without_fronted}
use Rattle.ts_constraint.proofs.directories.Directories.new.Goals as goal

pub invariant_of-result : goal.invariant_of-result
invariant_of-result c =
    let sorted : IsSorted (λ (a b : Directory). slice_cmp compare_rdns (form_in a) (form_in b)) c.sort_unstable_by.new.self.items =
    c.sort_unstable_by.ensures.sorted
    (λ (a b : Directory). is_lt (slice_cmp compare_rdns (form_in a) (form_in b)))
    (ranks_by (lists_total rdns-total) form_in)
    (answers_always _ _ _
    (λ f a r h k. let e : r ≡ slice_cmp compare_rdns (form_in a.0.now) (form_in a.1.0.now) =
    search rules in ap is_lt e)) in
    let items : c.dedup_by.new.self.items ≡ without_fronted compare_rdns form_in
    c.sort_unstable_by.new.self.items =
    dedup_same _ _ _ (λ x y b f x' y' k. search rules) _ _ c.dedup_by.ensures.filtered in
    record { apart = subst (λ (xs : List Directory). AreApart compare_rdns form_in xs) (sym items) (table-apart rdns-total form_in c.sort_unstable_by.new.self.items sorted) }

pub returns : goal.returns
returns c = λ name.
    let items : c.dedup_by.new.self.items ≡ without_fronted compare_rdns form_in
    c.sort_unstable_by.new.self.items =
    dedup_same _ _ _ (λ x y b f x' y' k. search rules) _ _ c.dedup_by.ensures.filtered in
    ap (λ (xs : List Directory). has_directory xs name) items
    ∙ table-same rdns-total form_in c.args.names.items c.sort_unstable_by.new.self.items name c.sort_unstable_by.ensures.permutation
