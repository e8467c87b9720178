use Rattle.std.proofs.Common.{◌≡◌, List, ap, sym, subst, ◌∙◌, Ordering, rules}
use Rattle.std.specs.Ordering.{nat_cmp}
use Rattle.std.proofs.lemmas.Cmp.{nat_cmp_total}
use Rattle.std.proofs.lemmas.Fn.{always_returns_same}
use Rattle.ts_constraint.specs.declared.ending.Ending.{Ending}
use Rattle.ts_constraint.specs.inside.Ending.{octets}
use Rattle.ts_constraint.specs.inside.Fronts.{front_cmp, has_front, AreApart}
use Rattle.ts_constraint.proofs.Fronts.{found}
use Rattle.ts_constraint.proofs.endings.Endings.has_front.Goals as goal

pub returns : goal.returns
returns c =
    let item = octets c.args.item in
    let value = c.as_slice.ensures.value in
    let apart = subst (λ (xs : List Ending). AreApart nat_cmp octets xs) (sym value) c.args.self.now.apart in
    let place = c.binary_search_by.ensures.position (λ (e : Ending). front_cmp nat_cmp (octets e) item) (always_returns_same _ _ _ (λ a r f k. search rules)) in
    c.is_ok.ensures.value
    ∙ found nat_cmp_total octets c.as_slice.result.now item c.binary_search_by.result apart place c.binary_search_by.ensures.bound
    ∙ ap (λ (xs : List Ending). has_front nat_cmp octets xs item) value
