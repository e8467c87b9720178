use Rattle.std.proofs.Common.{List, ℕ, ◌∷◌, sym, ◌∙◌, subst, ap}
use Rattle.ts_shape.specs.Items.{items_at}
use Rattle.ts_shape.specs.Repeats.{HaveEnds, is_among}
use Rattle.ts_shape.proofs.FirstRepeats.{seen-next, seen-end}
use Rattle.ts_shape.proofs.repeats.have_ends_of_their_own.Goals as goal

pub loop-item-preserved : goal.loop-item-preserved
loop-item-preserved g c =
    let key = g.T.FromElement.key_of in
    let x = g.T.FromElement.record_of c.in-Some.item in
    let i = c.loop-item.invariant in
    let rest = items_at g.T.FromElement.reading c.next.new.self.rest in
    let new = ap (λ k. is_among k i.0) (sym c.key.ensures) ∙ c.is_new.ensures.none i.0 i.1 c.if-not-is_new.false in (
      key x ∷ i.0,
      subst (λ (k : List ℕ). HaveEnds (k ∷ i.0) c.is_new.new.self) c.key.ensures (c.is_new.ensures.more i.0 i.1),
      i.2 ∙ seen-next key i.0 _ x rest c.in-Some.ensures.steps new,
    )

pub returns : goal.returns
returns g c = λ e. c.loop-item.invariant.2 ∙ seen-end g.T.FromElement.key_of c.loop-item.invariant.0 _ c.in-None.ensures.steps.0
