-- What was delivered so far is answered by turns.
use Rattle.ts_links.specs.Calls.{HasReached}
use Rattle.ts_peers.proofs.carrier.deliver.Given as goal

abbrev pub invariant-loop-frame : goal.invariant-loop-frame
invariant-loop-frame g l = record {
  reached : HasReached g.S.Service.turn g.S.Service.keeps l.initial.service l.initial.table l.service l.table;
  ready : g.S.Service.is_ready l.service;
}
