-- What was read precedes what is left.
use Rattle.std.proofs.Common.{length, option_map}
use Rattle.ts_script.specs.Pieces.{pieces_behind}
use Rattle.ts_script.specs.inside.CrlParts.{crl_parts}
use Rattle.ts_script.proofs.CrlReading.{CrlReadsOn}
use Rattle.ts_script.proofs.crl_words.crl_words.Given as goal

abbrev pub invariant-loop-rest : goal.invariant-loop-rest
invariant-loop-rest l =
    CrlReadsOn (pieces_behind 32 (option_map (λ rest. rest.now) l.words)) (crl_parts l.said.items) (pieces_behind 32 (option_map (λ rest. rest.now) l.rest))

abbrev pub decreases-loop-rest : goal.decreases-loop-rest
decreases-loop-rest l = length (pieces_behind 32 (option_map (λ rest. rest.now) l.rest))
