use Rattle.std.proofs.Common.{◌∙◌, ◌++◌, ◌∷◌, [], sym, refl}
use Rattle.std.proofs.lemmas.Result.{err_from_is_err_and}
use Rattle.ts_der.specs.Element.{inside}
use Rattle.ts_der.specs.Reading.{many}
use Rattle.ts_der.specs.View.{now}
use Rattle.ts_der.proofs.Many.{goes_on, breaks_off, is_done}
use Rattle.ts_shape.specs.Items.{each, some_of}
use Rattle.ts_shape.proofs.ItemParts.{each-consumes, some-is, none-is}
use Rattle.ts_shape.proofs.sequence_of.check_items.Goals as goal

pub returns-in_err-next_item : goal.returns-in_err-next_item
unfolding some_of
returns-in_err-next_item g c =
    let value = g.T.FromElement.reading in
    let p = err_from_is_err_and c.from_residual.result c.from_residual.ensures.1 in
    let i = c.loop-rest.invariant in
    let total = breaks_off (each value) (each-consumes value) i.0 c.loop-rest.rest
    c.in_err-next_item.field-0.0 (many (each value) (inside (now c.args.element)))
    (sym c.is_at_end.ensures ∙ c.loop-rest-test.true) c.in_err-next_item.ensures i.1 in
    rw (p.1, p.2, total) refl

pub loop-rest-smaller : goal.loop-rest-smaller
loop-rest-smaller g c = each-consumes g.T.FromElement.reading c.loop-rest.rest (g.T.FromElement.record_of c.in_ok-next_item.field-0) c.next_item.new.rest c.in_ok-next_item.ensures

pub loop-rest-preserved : goal.loop-rest-preserved
loop-rest-preserved g c =
    let value = g.T.FromElement.reading in
    let i = c.loop-rest.invariant in
    let x = g.T.FromElement.record_of c.in_ok-next_item.field-0 in (
      i.0 ++ x ∷ [],
      goes_on (each value) (each-consumes value) i.0 c.loop-rest.rest x
          c.next_item.new.rest (many (each value) (inside (now c.args.element)))
          (sym c.is_at_end.ensures ∙ c.loop-rest-test.true) c.in_ok-next_item.ensures i.1,
    )

pub returns-then-is_empty : goal.returns-then-is_empty
returns-then-is_empty g c =
    let value = g.T.FromElement.reading in
    let i = c.loop-rest.invariant in
    let all = is_done (each value) i.0 c.loop-rest.rest (many (each value) (inside (now c.args.element))) (sym c.is_at_end.ensures ∙ c.loop-rest-test.false) i.1 in
    rw (none-is value (now c.args.element) i.0 all (sym c.is_empty.ensures ∙ c.if-is_empty.true)) refl

pub returns : goal.returns
returns g c =
    let value = g.T.FromElement.reading in
    let i = c.loop-rest.invariant in
    let all = is_done (each value) i.0 c.loop-rest.rest (many (each value) (inside (now c.args.element))) (sym c.is_at_end.ensures ∙ c.loop-rest-test.false) i.1 in
    rw (some-is value (now c.args.element) i.0 all (sym c.is_empty.ensures ∙ c.if-is_empty.false)) refl
