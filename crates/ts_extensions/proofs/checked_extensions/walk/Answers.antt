use Rattle.std.proofs.Common.{◌≡◌, ℕ, false, List, ◌∷◌, Option, Some, None, refl, sym, ap, subst, ◌∙◌}
use Rattle.std.proofs.lemmas.Result.{err_from_is_err_and}
use Rattle.ts_der.specs.Element.{inside}
use Rattle.ts_der.specs.Reading.{many}
use Rattle.ts_der.specs.View.{now}
use Rattle.ts_der.proofs.Many.{is_done}
use Rattle.ts_shape.specs.declared.fault.CertFault.{CertFault}
use Rattle.ts_shape.specs.Items.{each, some_of}
use Rattle.ts_shape.specs.Shape.{◌or_else◌}
use Rattle.ts_shape.proofs.FirstRepeats.{seen-end}
use Rattle.ts_shape.specs.Repeats.{is_among, HaveEnds}
use Rattle.ts_shape.proofs.Walks.{within-consumes}
use Rattle.ts_shape.proofs.ItemParts.{some-is, none-is, walk-end}
use Rattle.ts_extensions.specs.Extension.{Located, located_of, located_in}
use Rattle.ts_extensions.specs.ExtensionView.{located_as}
use Rattle.ts_extensions.specs.ValueRules.{values_fault}
use Rattle.ts_extensions.proofs.Walked.{Finds, walked-on, broken-off, stands, no-element, no-extension}
use Rattle.ts_extensions.proofs.checked_extensions.walk.Goals as goal

alone : (a : Option CertFault) → (a or_else None) ≡ a
alone None = refl
alone (Some f) = refl

pub returns-in_err-element-clause-shape : goal.returns-in_err-element-clause-shape
unfolding some_of
returns-in_err-element-clause-shape c =
    let p = err_from_is_err_and c.from_residual.result c.from_residual.ensures.1 in
    let here = c.loop-rest.rest in
    let total = broken-off (inside (now c.args.list)) here c.in_err-element.field-0.0
    c.loop-rest.invariant.0 (sym c.is_at_end.ensures ∙ c.loop-rest-test.true)
    (no-element here c.in_err-element.field-0.0 c.in_err-element.ensures.exact.0) in
    rw (p.1, p.2, total) refl

pub returns-in_err-extension-in-None-clause-shape : goal.returns-in_err-extension-in-None-clause-shape
unfolding some_of
returns-in_err-extension-in-None-clause-shape c =
    let p = err_from_is_err_and c.from_residual-in_err-extension-in-None.result c.from_residual-in_err-extension-in-None.ensures.1 in
    let here = c.loop-rest.rest in
    let read = no-extension here (now c.in_ok-element.element) c.element.new.self c.in_err-extension-in-None.field-0.0 c.in_ok-element.ensures.exact c.in_err-extension-in-None.ensures in
    let total = broken-off (inside (now c.args.list)) here c.in_err-extension-in-None.field-0.0 c.loop-rest.invariant.0 (sym c.is_at_end.ensures ∙ c.loop-rest-test.true) read in
    rw (p.1, p.2, total) refl

pub loop-rest-smaller-in-Some : goal.loop-rest-smaller-in-Some
loop-rest-smaller-in-Some c =
    let here = c.loop-rest.rest in
    let x = c.in-Some.ensures in
    within-consumes 0x30 located_of here x.0 c.element.new.self (stands here (now c.in_ok-element.element) c.element.new.self x.0 c.in_ok-element.ensures.exact x.1)

pub loop-rest-smaller : goal.loop-rest-smaller
loop-rest-smaller c =
    let here = c.loop-rest.rest in
    let x = located_as c.in_ok-extension-in-None.extension in
    within-consumes 0x30 located_of here x c.element.new.self (stands here (now c.in_ok-element.element) c.element.new.self x c.in_ok-element.ensures.exact c.in_ok-extension-in-None.ensures)

pub loop-rest-preserved-in-Some : goal.loop-rest-preserved-in-Some
loop-rest-preserved-in-Some c =
    let here = c.loop-rest.rest in
    let x = c.in-Some.ensures in
    let read = stands here (now c.in_ok-element.element) c.element.new.self x.0 c.in_ok-element.ensures.exact x.1 in
    let had = c.loop-rest.found.fault in
    let found = c.with_key-found.ensures in
    let named = λ (P : List ℕ → Type 0). subst P (sym x.2) in
    let one : Finds c.args.holder x.0 had c.with_key-found.result.fault
    c.loop-rest.found.have_ends_of_their_own c.with_key-found.result.have_ends_of_their_own
    c.loop-rest.ends c.with_key-found.new.ends =
    record {
      fault = found.fault ∙ (sym (alone had) ∙ ap (λ (o : Option CertFault). had or_else o) (sym x.3));
      before = found.before;
      new = λ keys have own. named (λ (k : List ℕ). is_among k keys ≡ false) (found.new keys have own);
      met = λ keys have. named (λ (k : List ℕ). HaveEnds (k ∷ keys) c.with_key-found.new.ends) (found.met keys have);
    } in
    walked-on c.args.holder (inside (now c.args.list)) here c.element.new.self x.0 had
    c.with_key-found.result.fault c.loop-rest.found.have_ends_of_their_own
    c.with_key-found.result.have_ends_of_their_own c.loop-rest.ends c.with_key-found.new.ends
    (sym c.is_at_end.ensures ∙ c.loop-rest-test.true) read one c.loop-rest.invariant

pub loop-rest-preserved : goal.loop-rest-preserved
loop-rest-preserved c =
    let here = c.loop-rest.rest in
    let x = located_as c.in_ok-extension-in-None.extension in
    let found = c.with-found.ensures in
    let read = stands here (now c.in_ok-element.element) c.element.new.self x c.in_ok-element.ensures.exact c.in_ok-extension-in-None.ensures in
    let one : Finds c.args.holder x c.loop-rest.found.fault c.with-found.result.fault
    c.loop-rest.found.have_ends_of_their_own c.with-found.result.have_ends_of_their_own
    c.loop-rest.ends c.with-found.new.ends =
    record { fault = found.fault; before = found.before; new = found.new; met = found.met } in
    walked-on c.args.holder (inside (now c.args.list)) here c.element.new.self x
    c.loop-rest.found.fault c.with-found.result.fault c.loop-rest.found.have_ends_of_their_own
    c.with-found.result.have_ends_of_their_own c.loop-rest.ends c.with-found.new.ends
    (sym c.is_at_end.ensures ∙ c.loop-rest-test.true) read one c.loop-rest.invariant

pub returns-then-is_empty-clause-shape : goal.returns-then-is_empty-clause-shape
returns-then-is_empty-clause-shape c =
    let i = c.loop-rest.invariant.0 in
    let all = is_done (each located_in) i.0 c.loop-rest.rest (many (each located_in) (inside (now c.args.list))) (sym c.is_at_end.ensures ∙ c.loop-rest-test.false) i.1 in
    rw (none-is located_in (now c.args.list) i.0 all (sym c.is_empty.ensures ∙ c.if-is_empty.true)) refl

pub returns-clause-shape : goal.returns-clause-shape
returns-clause-shape c =
    let i = c.loop-rest.invariant.0 in
    let all = is_done (each located_in) i.0 c.loop-rest.rest (many (each located_in) (inside (now c.args.list))) (sym c.is_at_end.ensures ∙ c.loop-rest-test.false) i.1 in
    rw (some-is located_in (now c.args.list) i.0 all (sym c.is_empty.ensures ∙ c.if-is_empty.false)) refl

pub returns-clause-fault : goal.returns-clause-fault
returns-clause-fault c =
    let none = walk-end located_in c.loop-rest.rest (sym c.is_at_end.ensures ∙ c.loop-rest-test.false) in
    let fault = c.loop-rest.found.fault in
    sym (alone fault) ∙ (ap (λ (xs : List Located). fault or_else values_fault c.args.holder xs) (sym none) ∙ c.loop-rest.invariant.1)

pub returns-clause-ends : goal.returns-clause-ends
returns-clause-ends c = λ own.
    let i = c.loop-rest.invariant.2 own in
    i.2 ∙ seen-end (λ (y : Located). y.extnID) i.0 _ (walk-end located_in c.loop-rest.rest (sym c.is_at_end.ensures ∙ c.loop-rest-test.false))
