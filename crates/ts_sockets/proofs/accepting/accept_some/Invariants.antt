-- No request was taken so far.
use Rattle.ts_links.specs.Calls.{IsQuiet}
use Rattle.ts_sockets.proofs.accepting.accept_some.Given as goal

abbrev pub invariant-loop-accept : goal.invariant-loop-accept
invariant-loop-accept g l = IsQuiet l.initial.table l.table
