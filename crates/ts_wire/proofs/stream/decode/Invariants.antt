use Rattle.std.proofs.Common.{take}
use Rattle.std.specs.List.{flat_map}
use Rattle.ts_wire.proofs.Draining.{SoFar}
use Rattle.ts_wire.proofs.stream.decode.Given as goal

abbrev pub invariant-loop-piece : goal.invariant-loop-piece
invariant-loop-piece l = SoFar (flat_map (λ piece. piece.items) (take l.piece-index l.pieces)) l.frames.items l.feed
