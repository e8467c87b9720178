-- No request was taken so far.
use Rattle.ts_links.specs.Calls.{IsQuiet}
use Rattle.ts_sockets.proofs.lock.Lock.hand_on.Given as goal

abbrev pub invariant-loop-step : goal.invariant-loop-step
invariant-loop-step l = IsQuiet l.initial.table l.table
