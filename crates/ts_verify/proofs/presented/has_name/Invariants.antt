use Rattle.std.specs.Prelude.{◌↔◌}
use Rattle.ts_shape.specs.Items.{items_at}
use Rattle.ts_name.specs.General.{general_of}
use Rattle.ts_ext.specs.NameViews.{alternatives_in}
use Rattle.ts_verify.specs.Hosts.{SomeOf, IsNamed}
use Rattle.ts_verify.proofs.presented.has_name.Given as goal

abbrev pub invariant-loop-name : goal.invariant-loop-name
invariant-loop-name l =
    (goal.iterator-loop-name).can_next l.name-iterator × (goal.iterator-loop-name).is_finite l.name-iterator
    × (SomeOf (IsNamed l.host) (alternatives_in l.fn.names) ↔ SomeOf (IsNamed l.host) (items_at general_of l.name-iterator.rest))
