use Rattle.std.proofs.Common.{◌≡◌, ◌<◌, List, ◌∷◌, Ok, length, sym, ap, subst, ◌∙◌, arith}
use Rattle.ts_der.specs.View.{now}
use Rattle.ts_name.specs.declared.attribute.Attribute.{Attribute}
use Rattle.ts_name.specs.Canon.{Attr}
use Rattle.ts_name.specs.View.{attr_of}
use Rattle.ts_name.specs.Names.{attribute_of, attributes_from}
use Rattle.ts_shape.proofs.Walks.{nothing_left, Front, front_is, no_fault, read_one}
use Rattle.ts_name.proofs.name_items.AttributesIterator.next.Goals as goal

pub returns-then-is_at_end-clause-steps : goal.returns-then-is_at_end-clause-steps
returns-then-is_at_end-clause-steps c =
    let none = sym c.self.view_is ∙ nothing_left 0x30 attribute_of c.self.inside.rest (sym c.is_at_end.ensures ∙ c.if-is_at_end.true) in
    (none, none)

pub returns-in_default-clause-steps : goal.returns-in_default-clause-steps
returns-in_default-clause-steps c =
    absurd (no_fault 0x30 attribute_of c.self.inside.rest c.in_default.field-0 c.self.invariant (sym c.is_at_end.ensures ∙ c.if-is_at_end.false) c.in_default.ensures.exact.0)

first : (c : goal.After-ok) → Front 0x30 attribute_of c.self.inside.rest (now c.in-Ok.element) c.element.new.self
first c = front_is 0x30 attribute_of c.self.inside.rest (now c.in-Ok.element) c.element.new.self c.self.invariant (sym c.is_at_end.ensures ∙ c.if-is_at_end.false) c.in-Ok.ensures.exact

pub invariant_of-self-2 : goal.invariant_of-self-2
invariant_of-self-2 c = let f = first c in f.ok

read : (c : goal.After-ok) → (x : Attribute) × (c.read_attribute.result ≡ Ok x) × (attr_of x ≡ Front.item (first c))
read c =
    let f = first c in
    read_one attr_of c.read_attribute.result (attribute_of (now c.in-Ok.element)) f.item c.read_attribute.ensures f.read

pub returns-clause-steps : goal.returns-clause-steps
returns-clause-steps c =
    let f = first c in
    let x = read c in
    rw (c.ok.ensures.value, x.1) (sym c.self.view_is ∙ (f.whole ∙ ap (λ (a : Attr). a ∷ attributes_from c.element.new.self) (sym x.2)))

pub returns-clause-goes : goal.returns-clause-goes
returns-clause-goes c =
    let f = first c in
    let x = read c in
    let shorter : length (attributes_from c.element.new.self) < length c.args.self.now =
    subst (λ (xs : List Attr). length (attributes_from c.element.new.self) < length xs)
    (sym f.whole ∙ c.self.view_is) (omega arith) in
    rw (c.ok.ensures.value, x.1) (record { on = λ _. (tt, tt, shorter); keeps = tt; rests = λ _. tt })
