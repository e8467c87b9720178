use Rattle.std.proofs.Common.{◌≡◌, None, take}
use Rattle.ts_log.specs.Log.{StandsFor, config_of, received_of}
use Rattle.ts_log.proofs.log.Log.open.Given as goal

abbrev pub invariant-loop-fact : goal.invariant-loop-fact
invariant-loop-fact g l = record { state : StandsFor l.log (take l.fact-index l.facts); config : config_of l.log ≡ record { nodes = l.nodes; me = l.me }; received : received_of l.log ≡ (λ p a. None) }
