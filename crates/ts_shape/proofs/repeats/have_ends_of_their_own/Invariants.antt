use Rattle.std.proofs.Common.{◌≡◌, [], List, ℕ}
use Rattle.ts_der.specs.Element.{inside}
use Rattle.ts_der.specs.View.{now}
use Rattle.ts_shape.specs.Items.{items_at}
use Rattle.ts_shape.specs.Repeats.{first_repeated, HaveEnds}
use Rattle.ts_shape.proofs.repeats.have_ends_of_their_own.Given as goal

abbrev pub invariant-loop-item : goal.invariant-loop-item
invariant-loop-item g l =
    (keys : List (List ℕ)) × HaveEnds keys l.ends
    × (first_repeated g.T.FromElement.key_of [] (items_at g.T.FromElement.reading (inside (now l.list)))
    ≡ first_repeated g.T.FromElement.key_of keys (items_at g.T.FromElement.reading l.item-iterator.rest))
