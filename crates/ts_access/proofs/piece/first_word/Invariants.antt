-- What is left has the same words.
use Rattle.std.proofs.Common.{◌≡◌, length, option_map}
use Rattle.ts_access.specs.Pieces.{pieces_behind, words_behind}
use Rattle.ts_access.specs.declared.piece.Mark.TheVariants.{Blank}
use Rattle.ts_access.proofs.piece.first_word.Given as goal

abbrev pub invariant-loop-rest : goal.invariant-loop-rest
invariant-loop-rest l = words_behind (option_map (λ rest. rest.now) l.rest)
    ≡ words_behind (option_map (λ rest. rest.now) l.octets)

abbrev pub decreases-loop-rest : goal.decreases-loop-rest
decreases-loop-rest l = length (pieces_behind Blank (option_map (λ rest. rest.now) l.rest))
