use Rattle.std.proofs.Common.{◌<◌, List, length, refl, sym, subst, ◌∙◌, arith}
use Rattle.ts_shape.specs.Items.{items_at}
use Rattle.ts_shape.proofs.ItemParts.{walk-end, walk-step, walk-stop}
use Rattle.ts_shape.proofs.sequence_of.SequenceItemsIterator.next.Goals as goal

pub returns-then-is_at_end-clause-steps : goal.returns-then-is_at_end-clause-steps
returns-then-is_at_end-clause-steps g c =
    let none = walk-end g.T.FromElement.reading c.args.self.now.rest (sym c.is_at_end.ensures ∙ c.if-is_at_end.true) in
    (none, none)

pub returns-in-Ok-clause-steps : goal.returns-in-Ok-clause-steps
returns-in-Ok-clause-steps g c =
    walk-step g.T.FromElement.reading c.args.self.now.rest (g.T.FromElement.record_of c.in-Ok.item) c.next_item.new.rest (sym c.is_at_end.ensures ∙ c.if-is_at_end.false) c.in-Ok.ensures

pub returns-in-Ok-clause-goes : goal.returns-in-Ok-clause-goes
returns-in-Ok-clause-goes g c =
    let items = items_at g.T.FromElement.reading in
    let shorter : length (items c.next_item.new.rest) < length (items c.args.self.now.rest) =
    subst (λ (xs : List g.T.FromElement.Record). length (items c.next_item.new.rest) < length
    xs) (sym (returns-in-Ok-clause-steps g c)) (omega arith) in
    record { on = λ _. (tt, tt, shorter); keeps = tt; rests = λ _. tt }

pub returns-in-Err-clause-steps : goal.returns-in-Err-clause-steps
returns-in-Err-clause-steps g c =
    let value = g.T.FromElement.reading in
    (walk-stop value c.args.self.now.rest c.in-Err.field-0 c.in-Err.ensures, rw c.new-self.ensures (walk-end value _ refl))
