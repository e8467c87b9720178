use Rattle.std.proofs.Common.{◌≡◌, ◌++◌, map}
use Rattle.ts_shape.specs.Items.{items_at}
use Rattle.ts_name.specs.General.{general_of}
use Rattle.ts_ext.specs.NameViews.{names_in}
use Rattle.ts_line.specs.Names.{general_text}
use Rattle.ts_line.specs.Scopes.{behind_commas}
use Rattle.ts_line.proofs.scope.write_names.Given as goal

abbrev pub invariant-loop-name : goal.invariant-loop-name
invariant-loop-name l =
    (goal.iterator-loop-name).can_next l.name-iterator × (goal.iterator-loop-name).is_finite l.name-iterator
    × (l.items ++ behind_commas (map general_text (items_at general_of l.name-iterator.rest))
    ≡ l.fn.items ++ behind_commas (map general_text (names_in l.fn.names)))
