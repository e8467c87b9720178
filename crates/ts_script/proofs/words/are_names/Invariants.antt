-- All the words are names exactly where those are that are left.
use Rattle.std.proofs.Common.{length, option_map}
use Rattle.ts_script.specs.Pieces.{pieces_behind}
use Rattle.ts_script.specs.Words.{IsName}
use Rattle.ts_script.proofs.Cutting.{SameAll}
use Rattle.ts_script.proofs.words.are_names.Given as goal

abbrev pub invariant-loop-rest : goal.invariant-loop-rest
invariant-loop-rest l = SameAll IsName (pieces_behind 32 (option_map (λ rest. rest.now) l.words)) (pieces_behind 32 (option_map (λ rest. rest.now) l.rest))

abbrev pub decreases-loop-rest : goal.decreases-loop-rest
decreases-loop-rest l = length (pieces_behind 32 (option_map (λ rest. rest.now) l.rest))
