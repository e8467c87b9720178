-- What was taken so far.
use Rattle.ts_links.specs.Calls.{HasReached}
use Rattle.ts_links.proofs.reaching.take_some.Given as goal

abbrev pub invariant-loop-taken : goal.invariant-loop-taken
invariant-loop-taken g l = record {
  reached : HasReached g.S.Service.turn g.S.Service.keeps l.initial.service l.initial.table l.service l.table;
  ready : g.S.Service.is_ready l.service;
}
