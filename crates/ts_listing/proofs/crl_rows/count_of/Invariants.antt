use Rattle.std.proofs.Common.{◌≡◌, ◌+◌, length}
use Rattle.ts_shape.specs.Items.{items_at}
use Rattle.ts_crl.specs.EntryView.{entries_in}
use Rattle.ts_crl.specs.Reading.{located_entry_of}
use Rattle.ts_listing.proofs.crl_rows.count_of.Given as goal

abbrev pub invariant-loop-entry : goal.invariant-loop-entry
invariant-loop-entry l = l.count + length (items_at located_entry_of l.entry-iterator.rest) ≡ length (entries_in l.fn.revoked)
