use Rattle.std.proofs.Common.{◌≡◌, take}
use Rattle.ts_acceptor.specs.Acceptor.{StandsFor, config_of}
use Rattle.ts_acceptor.proofs.acceptor.Acceptor.open.Given as goal

abbrev pub invariant-loop-fact : goal.invariant-loop-fact
invariant-loop-fact g l = record { state : StandsFor l.acceptor (take l.fact-index l.facts); config : config_of l.acceptor ≡ record { nodes = l.nodes; me = l.me } }
