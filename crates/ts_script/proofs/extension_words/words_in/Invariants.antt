-- What was read precedes what is left.
use Rattle.std.proofs.Common.{length, option_map}
use Rattle.std.specs.List.{flat_map}
use Rattle.ts_script.specs.Pieces.{pieces_behind}
use Rattle.ts_script.specs.inside.OwnedParts.{parts_of}
use Rattle.ts_script.proofs.Decoding.{ReadsOn}
use Rattle.ts_script.proofs.extension_words.words_in.Given as goal

abbrev pub invariant-loop-rest : goal.invariant-loop-rest
invariant-loop-rest l =
    ReadsOn (pieces_behind 32 (option_map (λ rest. rest.now) l.words)) (flat_map parts_of l.said.items) (pieces_behind 32 (option_map (λ rest. rest.now) l.rest))

abbrev pub decreases-loop-rest : goal.decreases-loop-rest
decreases-loop-rest l = length (pieces_behind 32 (option_map (λ rest. rest.now) l.rest))
