use Rattle.std.proofs.Common.{◌≤◌, length, arith}
use Rattle.ts_crl.specs.EntryView.{located_items_in, placed_in}
use Rattle.ts_crl.proofs.Joining.{one-repeats_none}
use Rattle.ts_crl.proofs.noting.or_repeat.Goals as goal

pub returns-else-count-gt1 : goal.returns-else-count-gt1
returns-else-count-gt1 c = let few : length (located_items_in c.args.placed.list) ≤ 1 = omega (arith, c.requires) in one-repeats_none c.args.found (placed_in c.args.placed) few
