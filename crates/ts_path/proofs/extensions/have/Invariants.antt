-- One of all stands for it exactly where one of those left does.
use Rattle.std.proofs.Common.{◌≡◌}
use Rattle.std.specs.List.{list_any}
use Rattle.ts_shape.specs.Items.{items_at}
use Rattle.ts_ext.specs.Reading.{key_purpose_in}
use Rattle.ts_ext.specs.View.{purposes_in}
use Rattle.ts_path.specs.Purposes.{stands_for}
use Rattle.ts_path.proofs.extensions.have.Given as goal

abbrev pub invariant-loop-purpose : goal.invariant-loop-purpose
invariant-loop-purpose l =
    (goal.iterator-loop-purpose).can_next l.purpose-iterator × (goal.iterator-loop-purpose).is_finite l.purpose-iterator
    × (list_any (stands_for l.asked) (purposes_in l.fn.purposes) ≡ list_any (stands_for l.asked) (items_at key_purpose_in l.purpose-iterator.rest))
