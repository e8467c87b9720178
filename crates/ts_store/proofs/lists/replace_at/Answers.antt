use Rattle.std.proofs.Common.{refl, sym, ◌∙◌}
use Rattle.ts_store.specs.Lists.{is_newer}
use Rattle.ts_store.proofs.Slots.{is-older, is-replaced}
use Rattle.ts_store.proofs.lists.replace_at.Goals as goal

pub returns-then-not-is_newer : goal.returns-then-not-is_newer
returns-then-not-is_newer c =
    is-older c.args.new c.index.result.now c.args.lists.now.items c.args.i c.requires.place c.requires.within c.index.ensures
    (sym (c.is_newer.ensures ∙ (λ i. is_newer (c.view.ensures.same i) (c.view-2.ensures.same i))) ∙ c.if-not-is_newer.true)

pub returns : goal.returns
returns c =
    is-replaced c.args.new c.index.result.now c.args.lists.now.items _ c.args.i c.requires.place c.requires.within c.index.ensures
    (sym (c.is_newer.ensures ∙ (λ i. is_newer (c.view.ensures.same i) (c.view-2.ensures.same i))) ∙ c.if-not-is_newer.false) refl
