use Rattle.std.proofs.Common.{◌≡◌}
use Rattle.ts_shape.specs.Items.{items_at}
use Rattle.ts_extensions.specs.Extension.{located_in}
use Rattle.ts_extensions.specs.ExtensionView.{all_located_in}
use Rattle.ts_extensions.specs.ValueRules.{values_fault}
use Rattle.ts_extensions.proofs.extensions.first_broken_value.Given as goal

abbrev pub invariant-loop-extension : goal.invariant-loop-extension
invariant-loop-extension l = values_fault l.fn.holder (all_located_in l.fn.extensions) ≡ values_fault l.fn.holder (items_at located_in l.extension-iterator.rest)
