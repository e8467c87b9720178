use Rattle.std.proofs.Common.{◌<◌, ◌-◌, ℕ, List, [], length, take, refl, sym, ap, subst, ◌∙◌, arith}
use Rattle.std.specs.Borrow.{Bor}
use Rattle.std.proofs.lemmas.List.Sorted.{length_permutation}
use Rattle.ts_der.specs.Element.{inside}
use Rattle.ts_der.specs.View.{now}
use Rattle.ts_shape.specs.Items.{items_at}
use Rattle.ts_shape.specs.Repeats.{first_repeated, keys_in, AreAscending}
use Rattle.ts_shape.specs.inside.Collisions.{AreCollisions}
use Rattle.ts_shape.proofs.FirstRepeats.{seen-end, collisions-in, answered-all}
use Rattle.ts_shape.proofs.KeyTables.{among-moved}
use Rattle.ts_shape.proofs.collisions.first_repeated_of_collisions.Goals.{then-is_some-via-then-is_some, then-is_some-via-else-is_some+then-len}
use Rattle.ts_shape.proofs.collisions.first_repeated_of_collisions.Goals as goal

pub loop-table-init : goal.loop-table-init
loop-table-init g c = seen-end g.T.FromElement.key_of [] [] refl

pub first_met_again-found-requires : goal.first_met_again-found-requires
first_met_again-found-requires g c κs =
    let key = g.T.FromElement.key_of in
    let old = c.gather-passed.new.table.items in
    let new = c.sort.new.table.items in
    let passed = take c.gather-passed.result (items_at g.T.FromElement.reading (inside (now c.args.list))) in (
      (refl, tt),
      (
        c.requires.flags,
        (
          c.requires.few,
          (
            c.requires.small,
            (
              c.as_slice.ensures.fits,
              (
                subst (λ (t : List (Bor (List ℕ))). AreAscending t) (sym c.as_slice.ensures.value) c.sort.ensures.ascending,
                subst (λ (t : List (Bor (List ℕ))). AreCollisions key (keys_in t) [] passed) (sym c.as_slice.ensures.value)
                    (collisions-in key (keys_in old) (keys_in new) [] passed (λ k e. sym (among-moved k old new c.sort.ensures.same) ∙ e) c.gather-passed.ensures.collisions),
              ),
            ),
          ),
        ),
      ),
    )

pub returns-then-is_some : goal.returns-then-is_some
returns-then-is_some g c =
    let key = g.T.FromElement.key_of in
    let xs = items_at g.T.FromElement.reading (inside (now c.args.list)) in
    elim c.then-is_some.branch [
      | then-is_some-via-then-is_some w ↦
          answered-all key g.T.FromElement.record_of c.first_met_again-found.result
          c.gather-passed.result xs (sym c.is_some.ensures ∙ w.if-is_some.true)
          c.first_met_again-found.ensures
      | then-is_some-via-else-is_some+then-len w ↦ (
          let same = length_permutation c.gather-passed.new.table.items c.sort.new.table.items c.sort.ensures.same in
          let few = w.if-len.true in
          let many = w.len.ensures.value in
          c.first_met_again-found.ensures ∙ ap (first_repeated key []) (c.gather-passed.ensures.all (omega arith))
          )
    ]

pub loop-table-smaller : goal.loop-table-smaller
loop-table-smaller g c =
    let xs = items_at g.T.FromElement.reading (inside (now c.args.list)) in
    let same = length_permutation c.gather-passed.new.table.items c.sort.new.table.items c.sort.ensures.same in
    let full = c.if-len.false in
    let many = c.len.ensures.value in
    let room = c.requires.room in
    let further : c.loop-table.passed < c.gather-passed.result = c.gather-passed.ensures.further (omega arith) in
    let within = c.gather-passed.ensures.within in
    let less : length xs - c.gather-passed.result < length xs - c.loop-table.passed = omega arith in
    less
