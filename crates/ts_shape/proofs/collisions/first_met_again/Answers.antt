use Rattle.std.proofs.Common.{◌≡◌, ◌+◌, ◌-◌, ◌∷◌, ℕ, suc, Bool, true, false, List, [], Option, Some, None, length, take, refl, sym, ap, subst, ◌∙◌, arith}
use Rattle.std.specs.Iterator.{YieldsFirstBy}
use Rattle.std.specs.Prelude.{option_map}
use Rattle.ts_der.specs.Element.{Place, inside}
use Rattle.ts_shape.specs.Items.{items_at}
use Rattle.ts_shape.specs.Repeats.{first_repeated, keys_in, is_among}
use Rattle.ts_shape.specs.inside.Collisions.{AreCollisions, place_of}
use Rattle.ts_shape.proofs.FirstRepeats.{none-colliding, next-none, next-met, next-new, collisions-next, seen-end, not-seen}
use Rattle.ts_shape.proofs.KeyTables.{no-keys, place-in-table, place-absent, none-marked, marked-beside, marked-more, AreMarked}
use Rattle.std.proofs.lemmas.List.{length-map, length-replicate, length-set}
use Rattle.ts_der.specs.View.{now}
use Rattle.ts_shape.proofs.collisions.first_met_again.Goals.{in-Some-place_of+else-met-place, in_default-place_of}
use Rattle.ts_shape.proofs.collisions.first_met_again.Goals as goal

front : {A : Type 0} → List A → Option A
front [] = None
front (x ∷ xs) = Some x

-- what yields an item first yields it again from the same place
same-again : {T A : Type 0} (view : T → A) (here there : List A) (result : Option T) (x : A)
    (xs : List A) → YieldsFirstBy view (λ (left : List A). left) here result there → here ≡ x ∷ xs
    → option_map view result ≡ Some x
unfolding front
same-again view here there (Some y) x xs first is = ap front (sym first ∙ is)
same-again view here there None x xs first is = absurd cc

pub returns-then-is_empty : goal.returns-then-is_empty
returns-then-is_empty g c =
    let xs = take c.args.end (items_at g.T.FromElement.reading (inside (now c.args.list))) in
    let none = no-keys c.args.table.now (sym c.is_empty.ensures ∙ c.if-is_empty.true) in
    sym (none-colliding g.T.FromElement.key_of [] xs (subst (λ (keys : List (List ℕ)). AreCollisions g.T.FromElement.key_of keys [] xs) none c.requires.collisions))

pub loop-before-init : goal.loop-before-init
loop-before-init g c =
    let key = g.T.FromElement.key_of in
    let keys = keys_in c.args.table.now in
    let many = length-map c.args.table.now (λ y. y.now) in
    let room = c.requires.room in
    let all : c.args.end ≡ c.args.end - 0 = omega arith in
    let from = λ (p : Place) (n : ℕ). take n (items_at g.T.FromElement.reading p) in
    let same : from (inside (now c.args.list)) c.args.end ≡ from c.within-items.result.rest (c.args.end - 0) = rw (c.within-items.ensures, sym all) refl in (
      [],
      length-replicate g.row.N false,
      omega arith,
      c.set_flags.ensures,
      none-marked g.row.N keys (omega arith),
      subst (λ (xs : List g.T.FromElement.Record). AreCollisions key keys [] xs) same c.requires.collisions,
      ap (first_repeated key []) same,
    )

pub returns-in_default : goal.returns-in_default
returns-in_default g c =
    let i = c.loop-before.invariant in
    sym (i.6 ∙ next-none g.T.FromElement.key_of i.0 _ _ c.in_default.ensures.steps.0)

pub bounds-met-place : goal.bounds-met-place
bounds-met-place g c =
    let keys = keys_in c.args.table.now in
    let here = sym (c.place_of.ensures ∙ ap (λ (k : List ℕ). place_of k keys) c.key.ensures) ∙ c.in-Some-place_of.is in
    let within = place-in-table _ c.args.table.now _ here in
    let room = c.requires.room in
    omega arith

pub bounds-met-place-in-Some-place_of : goal.bounds-met-place-in-Some-place_of
bounds-met-place-in-Some-place_of g c =
    let keys = keys_in c.args.table.now in
    let here = sym (c.place_of.ensures ∙ ap (λ (k : List ℕ). place_of k keys) c.key.ensures) ∙ c.in-Some-place_of.is in
    let within = place-in-table _ c.args.table.now _ here in
    let room = c.requires.room in
    omega arith

pub returns-then-met-place : goal.returns-then-met-place
returns-then-met-place g c =
    let key = g.T.FromElement.key_of in
    let keys = keys_in c.args.table.now in
    let i = c.loop-before.invariant in
    let here = sym (c.place_of.ensures ∙ ap (λ (k : List ℕ). place_of k keys) c.key.ensures) ∙ c.in-Some-place_of.is in
    let met = sym (i.4 _ _ here) ∙ c.if-met-place.true in
    let read = λ (p : Place). items_at g.T.FromElement.reading p in
    let again = same-again g.T.FromElement.record_of _ _ c.next-then-met-place.result _ _ c.next-then-met-place.ensures.steps (ap read c.fork-here.ensures ∙ c.in-Some.ensures.steps) in
    again ∙ sym (i.6 ∙ next-met key i.0 _ _ _ (c.args.end - c.loop-before.before) (c.args.end - c.loop-before.before - 1) c.in-Some.ensures.steps (omega arith) met)

pub returns : goal.returns
returns g c =
    let i = c.loop-before.invariant in
    let none : c.args.end - c.loop-before.before ≡ 0 = omega arith in
    sym (i.6 ∙ ap (λ (n : ℕ). first_repeated g.T.FromElement.key_of i.0 (take n (items_at g.T.FromElement.reading c.loop-before.items.rest))) none ∙ seen-end g.T.FromElement.key_of i.0 _ refl)

pub loop-before-preserved : goal.loop-before-preserved
loop-before-preserved g c =
    let key = g.T.FromElement.key_of in
    let x = g.T.FromElement.record_of c.in-Some.item in
    let keys = keys_in c.args.table.now in
    let i = c.loop-before.invariant in
    let asked = c.place_of.ensures ∙ ap (λ (k : List ℕ). place_of k keys) c.key.ensures in
    let left = c.args.end - c.loop-before.before in
    let less = c.args.end - (c.loop-before.before + 1) in
    let one : left ≡ suc less = omega arith in
    let collisions = collisions-next key keys i.0 _ x _ left less c.in-Some.ensures.steps one i.5 in
    let met : (is_among (key x) i.0 ≡ false) × (length c.match-place_of.met ≡ g.row.N) × AreMarked c.match-place_of.met keys (key x ∷ i.0) =
    elim c.match-place_of.branch [
      | in-Some-place_of+else-met-place w ↦ (
          let here = sym asked ∙ w.in-Some-place_of.is in
          let within = place-in-table (key x) c.args.table.now w.in-Some-place_of.place here in
          let room = c.requires.room in
          let many = i.1 in (
            sym (i.4 (key x) w.in-Some-place_of.place here) ∙ w.if-met-place.false,
            ap length w.met-is ∙ length-set c.loop-before.met w.in-Some-place_of.place true ∙ i.1,
            subst (λ (m : List Bool). AreMarked m keys (key x ∷ i.0)) (sym w.met-is) (marked-more c.loop-before.met keys i.0 (key x) w.in-Some-place_of.place here (omega arith) i.4),
          )
          )
      | in_default-place_of w ↦ (
          let nowhere = sym asked ∙ w.in_default-place_of.is in (
            not-seen _ _ collisions.0 (place-absent (key x) keys nowhere),
            ap length w.met-is ∙ i.1,
            subst (λ (m : List Bool). AreMarked m keys (key x ∷ i.0)) (sym w.met-is) (marked-beside c.loop-before.met keys i.0 (key x) nowhere i.4),
          )
          )
    ] in (
      key x ∷ i.0,
      met.1,
      omega arith,
      i.3,
      met.2,
      collisions.1,
      i.6 ∙ next-new key i.0 _ x _ left less c.in-Some.ensures.steps one met.0,
    )
