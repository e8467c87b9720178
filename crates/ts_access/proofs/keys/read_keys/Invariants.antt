-- The lines before have added these keys.
use Rattle.std.proofs.Common.{length, option_map}
use Rattle.ts_access.specs.Pieces.{pieces_behind}
use Rattle.ts_access.specs.declared.piece.Mark.TheVariants.{LineFeed}
use Rattle.ts_access.proofs.Reading.{ReadsOn}
use Rattle.ts_access.proofs.keys.read_keys.Given as goal

abbrev pub invariant-loop-rest : goal.invariant-loop-rest
invariant-loop-rest l =
    ReadsOn l.text (option_map (λ rest. rest.now) l.rest) l.keys.items l.number

abbrev pub decreases-loop-rest : goal.decreases-loop-rest
decreases-loop-rest l = length (pieces_behind LineFeed (option_map (λ rest. rest.now) l.rest))
