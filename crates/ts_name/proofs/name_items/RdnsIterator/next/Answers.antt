use Rattle.std.proofs.Common.{◌<◌, List, length, refl, sym, subst, ◌∙◌, arith}
use Rattle.ts_der.specs.View.{now}
use Rattle.ts_name.specs.Canon.{Attr}
use Rattle.ts_name.specs.Names.{rdn_of, rdns_from}
use Rattle.ts_shape.proofs.Walks.{nothing_left, Front, front_is, no_fault}
use Rattle.ts_name.proofs.Shapes.{rdn_items}
use Rattle.ts_name.proofs.name_items.RdnsIterator.next.Goals as goal

pub returns-then-is_at_end-clause-steps : goal.returns-then-is_at_end-clause-steps
returns-then-is_at_end-clause-steps c =
    let none = sym c.self.view_is ∙ nothing_left 0x31 rdn_of c.self.inside.rest (sym c.is_at_end.ensures ∙ c.if-is_at_end.true) in
    (none, none)

pub returns-in_default-clause-steps : goal.returns-in_default-clause-steps
returns-in_default-clause-steps c =
    absurd (no_fault 0x31 rdn_of c.self.inside.rest c.in_default.field-0 c.self.invariant (sym c.is_at_end.ensures ∙ c.if-is_at_end.false) c.in_default.ensures.exact.0)

pub invariant_of-result : goal.invariant_of-result
invariant_of-result c =
    let f = front_is 0x31 rdn_of c.self.inside.rest (now c.in-Ok.element) c.element.new.self c.self.invariant (sym c.is_at_end.ensures ∙ c.if-is_at_end.false) c.in-Ok.ensures.exact in
    record { form = rw (rdn_items (now c.in-Ok.element) f.item f.read) refl }

first : (c : goal.After-result-1) → Front 0x31 rdn_of c.self.inside.rest (now c.in-Ok.element) c.element.new.self
first c = front_is 0x31 rdn_of c.self.inside.rest (now c.in-Ok.element) c.element.new.self c.self.invariant (sym c.is_at_end.ensures ∙ c.if-is_at_end.false) c.in-Ok.ensures.exact

pub invariant_of-self-2 : goal.invariant_of-self-2
invariant_of-self-2 c = let f = first c in f.ok

pub returns-clause-steps : goal.returns-clause-steps
returns-clause-steps c =
    let f = first c in
    rw (rdn_items (now c.in-Ok.element) f.item f.read) (sym c.self.view_is ∙ f.whole)

pub returns-clause-goes : goal.returns-clause-goes
returns-clause-goes c =
    let shorter : length (rdns_from c.element.new.self) < length c.args.self.now =
    subst (λ (xs : List (List Attr)). length (rdns_from c.element.new.self) < length xs)
    (sym (returns-clause-steps c)) (omega arith) in
    record { on = λ _. (tt, tt, shorter); keeps = tt; rests = λ _. tt }
