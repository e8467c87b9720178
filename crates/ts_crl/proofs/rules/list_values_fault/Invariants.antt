use Rattle.std.proofs.Common.{◌≡◌}
use Rattle.std.specs.Prelude.{map}
use Rattle.ts_shape.specs.Items.{items_at}
use Rattle.ts_ext.specs.declared.known.Holder.TheVariants.{List as ListHolder}
use Rattle.ts_extensions.specs.Extension.{located_in}
use Rattle.ts_extensions.specs.ValueRules.{values_fault}
use Rattle.ts_crl.specs.EntryView.{located_items_in}
use Rattle.ts_crl.specs.Rules.{located_as_ruled}
use Rattle.ts_crl.proofs.rules.list_values_fault.Given as goal

abbrev pub invariant-loop-extension : goal.invariant-loop-extension
invariant-loop-extension l =
    values_fault ListHolder (map located_as_ruled (located_items_in l.fn.list)) ≡ values_fault
    ListHolder (map located_as_ruled (items_at located_in l.extension-iterator.rest))
