use Rattle.std.proofs.Common.{◌≡◌, map, take}
use Rattle.ts_question.specs.Rows.{command_encoding}
use Rattle.ts_listing.specs.View.{line_in}
use Rattle.ts_listing.proofs.log.rows_of.Given as goal

abbrev pub invariant-loop-entry : goal.invariant-loop-entry
invariant-loop-entry l = l.rows ≡ map command_encoding (map line_in (take l.entry-index l.entries))
