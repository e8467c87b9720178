use Rattle.std.proofs.Common.{◌∙◌, subst, sym, refl, List, ℕ}
use Rattle.std.specs.Prelude.{Contains, nat_eq}
use Rattle.ts_recent.proofs.Pairs.{found}
use Rattle.ts_recent.proofs.recent.Recent.find.Goals as goal

pub returns : goal.returns
returns g c = subst (λ (o : List ℕ). Contains c.args.self.now (o, c.in_ok-entry.entry.now.value))
    (c.as_slice-2.ensures.value ∙ c.key.view_is)
    (found c.in-Some.table c.self.inside.table c.args.self.now (nat_eq c.key.inside.number)
    c.in_ok-entry.entry.now c.as_slice-2.result.now c.as_slice.result.now c.in-Some.is
    c.self.view_is c.in_ok-entry.ensures c.as_slice.ensures.value (sym c.if-ne.false ∙ c.ne.ensures))
