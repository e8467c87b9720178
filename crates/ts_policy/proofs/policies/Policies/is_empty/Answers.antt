use Rattle.std.proofs.Common.{◌≡◌, ◌∙◌, ap, sym, map, subst₂, ◌↔◌, Bool, IsTrue, []}
use Rattle.ts_policy.specs.inside.Layers.{is_over, newest}
use Rattle.ts_policy.specs.Labels.{Path}
use Rattle.ts_policy.specs.inside.Links.{link_in}
use Rattle.ts_policy.specs.Seen.{Seen, InPaths}
use Rattle.ts_policy.proofs.KeptLaw.{over_is}
use Rattle.ts_policy.proofs.policies.Policies.is_empty.Goals as goal

pub returns : goal.returns
returns c =
    let r = over_is _ _ c.self.invariant.holds in
    let e : c.is_over.result ≡ is_over
    (newest (λ v. map link_in v.items) [] c.self.inside.layers.items) = c.is_over.ensures
    ∙ ap (λ ls. is_over (newest (λ v. map link_in v.items) [] ls)) c.deref.ensures.value in
    let P : Bool → Seen → Type 0 = λ b s. IsTrue b ↔ ((w : Path) → InPaths s w → ⊥) in
    subst₂ P (sym e) c.self.view_is r
