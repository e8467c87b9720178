use Rattle.std.proofs.Common.{List, Ok, ◌∙◌, ◌++◌, ◌∷◌, [], sym, ap, refl}
use Rattle.std.proofs.lemmas.Bool.{false≢true}
use Rattle.std.proofs.lemmas.Result.{err_from_is_err_and}
use Rattle.ts_der.specs.Element.{inside}
use Rattle.ts_der.specs.Reading.{many}
use Rattle.ts_der.specs.View.{now}
use Rattle.ts_der.proofs.Many.{goes_on, breaks_off, is_done}
use Rattle.ts_name.specs.Canon.{Attr}
use Rattle.ts_name.specs.Names.{attribute_at, attribute_of}
use Rattle.ts_name.specs.View.{attr_of}
use Rattle.ts_shape.proofs.Walks.{within-consumes}
use Rattle.ts_name.proofs.name_reading.check_attributes.Goals as goal

pub loop-rest-smaller : goal.loop-rest-smaller
loop-rest-smaller c = within-consumes 0x30 attribute_of c.loop-rest.rest (attr_of c.in_ok-next_attribute.field-0) c.next_attribute.new.rest c.in_ok-next_attribute.ensures

pub loop-rest-preserved : goal.loop-rest-preserved
loop-rest-preserved c =
    let i = c.loop-rest.invariant in
    let x = (attr_of c.in_ok-next_attribute.field-0) in (
      i.0 ++ x ∷ [],
      goes_on attribute_at (within-consumes 0x30 attribute_of) i.0 c.loop-rest.rest x
          c.next_attribute.new.rest (many attribute_at (inside (now c.args.set)))
          (sym c.is_at_end.ensures ∙ c.loop-rest-test.true) c.in_ok-next_attribute.ensures i.1,
      (λ first. absurd (false≢true first)),
      λ single. (x, ap (λ (front : List Attr). front ++ x ∷ []) (i.2 single)),
    )

pub returns-in_err-next_attribute-clause-fault : goal.returns-in_err-next_attribute-clause-fault
returns-in_err-next_attribute-clause-fault c =
    let p = err_from_is_err_and c.from_residual.result c.from_residual.ensures.1 in
    let i = c.loop-rest.invariant in
    let total = breaks_off attribute_at (within-consumes 0x30 attribute_of) i.0 c.loop-rest.rest
    c.in_err-next_attribute.field-0.0 (many attribute_at (inside (now c.args.set)))
    (sym c.is_at_end.ensures ∙ c.loop-rest-test.true) c.in_err-next_attribute.ensures i.1 in
    rw (p.1, p.2, total) refl

pub returns-clause-fault : goal.returns-clause-fault
returns-clause-fault c =
    let i = c.loop-rest.invariant in
    let total = is_done attribute_at i.0 c.loop-rest.rest (many attribute_at (inside (now c.args.set))) (sym c.is_at_end.ensures ∙ c.loop-rest-test.false) i.1 in
    rw total refl

pub returns-clause-single : goal.returns-clause-single
returns-clause-single c = λ single.
    let i = c.loop-rest.invariant in
    let total = is_done attribute_at i.0 c.loop-rest.rest (many attribute_at (inside (now c.args.set))) (sym c.is_at_end.ensures ∙ c.loop-rest-test.false) i.1 in
    let one = i.3 single in
    (one.0, total ∙ ap (λ (xs : List Attr). Ok xs) one.1)
