-- Texts that are cut at marks.
use Rattle.std.proofs.Common.{◌≡◌, ℕ, ◌+◌, ◌<◌, true, false, List, [], ◌∷◌}
use Rattle.std.proofs.Common.{length, take, drop, get_or, arith}
use Rattle.std.specs.List.{position_or_len}
use Rattle.std.proofs.lemmas.List.Splits.{slice_split_first, slice_split_none}
use Rattle.std.proofs.lemmas.List.Sums.{position_or_len_is}
use Rattle.std.proofs.lemmas.List.Elements.{All-from_get_or}
use Rattle.ts_access.specs.Pieces.{is_mark, pieces_of}
use Rattle.ts_access.specs.declared.piece.Mark.{Mark}

-- where none of the octets before a mark is one, the first piece ends there
pub cut_at : (mark : Mark) (octets : List ℕ) (at : ℕ) → at < length octets
    → ((k : ℕ) → k < at → is_mark mark (get_or octets k 0) ≡ false)
    → is_mark mark (get_or octets at 0) ≡ true
    → pieces_of mark octets ≡ take at octets ∷ pieces_of mark (drop (at + 1) octets)
cut_at mark octets at within before is =
    let first = position_or_len_is (is_mark mark) octets at 0 (omega arith)
    (λ k below. before k below) (λ _. is) in
    let room : position_or_len (is_mark mark) octets < length octets = omega (arith, first) in
    let cut = slice_split_first (is_mark mark) octets 0 room in
    rw first at cut

-- where none is, there is one piece
pub not_cut : (mark : Mark) (octets : List ℕ)
    → ((k : ℕ) → k < length octets → is_mark mark (get_or octets k 0) ≡ false)
    → pieces_of mark octets ≡ octets ∷ []
not_cut mark octets none =
    slice_split_none (is_mark mark) octets
    (All-from_get_or (λ x. is_mark mark x ≡ false) octets 0 none)
