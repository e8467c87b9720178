-- None of the octets before is a mark.
use Rattle.std.proofs.Common.{◌≡◌, ◌<◌, ℕ, get_or, false}
use Rattle.ts_access.specs.Pieces.{is_mark}
use Rattle.ts_access.proofs.piece.first_piece.Given as goal

abbrev pub invariant-loop-at : goal.invariant-loop-at
invariant-loop-at l = (k : ℕ) → k < l.at → is_mark l.mark (get_or l.octets k 0) ≡ false
