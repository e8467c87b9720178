use Rattle.std.proofs.Common.{◌≡◌}
use Rattle.std.specs.Prelude.{map}
use Rattle.ts_shape.specs.Items.{items_at}
use Rattle.ts_extensions.specs.Extension.{unlocated, located_in}
use Rattle.ts_crl.specs.EntryView.{located_items_in}
use Rattle.ts_crl.specs.Profile.{unprocessed_in}
use Rattle.ts_crl.proofs.profile.unprocessed_in.Given as goal

abbrev pub invariant-loop-extension : goal.invariant-loop-extension
invariant-loop-extension l = unprocessed_in l.fn.holder (map unlocated (located_items_in l.fn.list)) ≡ unprocessed_in l.fn.holder (map unlocated (items_at located_in l.extension-iterator.rest))
