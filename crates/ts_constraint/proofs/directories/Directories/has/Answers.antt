use Rattle.std.proofs.Common.{◌≡◌, ◌-◌, ◌<◌, List, get_or, ap, sym, subst, ◌∙◌, arith, rules}
use Rattle.std.specs.Ordering.{is_le}
use Rattle.std.specs.Cmp.Lexicographic.{slice_cmp}
use Rattle.std.proofs.lemmas.Fn.{always_returns_same}
use Rattle.ts_constraint.specs.declared.directory.Directory.{Directory}
use Rattle.ts_constraint.specs.inside.Directory.{compare_rdns}
use Rattle.ts_constraint.specs.inside.Directories.{form_in, has_directory}
use Rattle.ts_constraint.specs.inside.Fronts.{is_front, AreApart}
use Rattle.ts_constraint.proofs.DirectoryForms.{rdns-total}
use Rattle.ts_constraint.proofs.Fronts.{by-last, none-up_to, up_to-first, same-item}
use Rattle.ts_constraint.proofs.directories.Directories.has.Goals as goal

pub returns-then-end-eq0 : goal.returns-then-end-eq0
returns-then-end-eq0 c =
    let item = form_in c.args.name.now in
    let value = c.as_slice-entries.ensures.value in
    let xs = c.as_slice-entries.result.now in
    let apart = subst (λ (ys : List Directory). AreApart compare_rdns form_in ys) (sym value) c.args.self.now.apart in
    let parts = c.partition_point-end.ensures.partitioned
    (λ (e : Directory). is_le (slice_cmp compare_rdns (form_in e) item))
    (always_returns_same _ _ _ (λ a r f k. search rules))
    (up_to-first rdns-total form_in xs item apart) in
    none-up_to rdns-total form_in xs item c.partition_point-end.result apart parts c.if-end-eq0.true ∙ ap (λ (ys : List Directory). has_directory ys item) value

pub returns : goal.returns
returns c =
    let item = form_in c.args.name.now in
    let value = c.as_slice-entries.ensures.value in
    let xs = c.as_slice-entries.result.now in
    let end = c.partition_point-end.result in
    let apart = subst (λ (ys : List Directory). AreApart compare_rdns form_in ys) (sym value) c.args.self.now.apart in
    let parts = c.partition_point-end.ensures.partitioned
    (λ (e : Directory). is_le (slice_cmp compare_rdns (form_in e) item))
    (always_returns_same _ _ _ (λ a r f k. search rules))
    (up_to-first rdns-total form_in xs item apart) in
    let low : 0 < end = omega (arith, c.if-end-eq0.false) in
    let x = c.index-entries-end.result in
    c.is_front.ensures
    ∙ ap (λ (e : Directory). is_front compare_rdns (form_in e) item) (sym c.index-entries-end.is)
    ∙ by-last rdns-total form_in xs item end apart parts c.partition_point-end.ensures.bound low x
    (λ d. same-item xs (end - 1) d x (omega (arith, c.partition_point-end.ensures.bound))
    ∙ sym c.index-entries-end.is)
    ∙ ap (λ (ys : List Directory). has_directory ys item) value
