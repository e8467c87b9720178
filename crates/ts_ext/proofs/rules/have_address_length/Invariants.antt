use Rattle.std.proofs.Common.{◌≡◌}
use Rattle.std.specs.List.{list_all}
use Rattle.ts_name.specs.General.{general_of, has_address_length}
use Rattle.ts_shape.specs.Items.{items_at}
use Rattle.ts_ext.specs.NameViews.{names_in}
use Rattle.ts_ext.proofs.rules.have_address_length.Given as goal

abbrev pub invariant-loop-name : goal.invariant-loop-name
invariant-loop-name l = list_all has_address_length (names_in l.fn.names) ≡ list_all has_address_length (items_at general_of l.name-iterator.rest)
