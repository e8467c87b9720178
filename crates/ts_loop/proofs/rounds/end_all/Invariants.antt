-- No request was taken so far.
use Rattle.ts_links.specs.Calls.{IsQuiet}
use Rattle.ts_loop.proofs.rounds.end_all.Given as goal

abbrev pub invariant-loop-slot : goal.invariant-loop-slot
invariant-loop-slot g l = IsQuiet l.initial.table l.table
