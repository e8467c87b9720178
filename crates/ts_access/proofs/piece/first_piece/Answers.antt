-- The octets are cut at the first mark.
use Rattle.std.proofs.Common.{◌≤◌, ◌∙◌, ◌+◌, ◌-◌, ◌∷◌, List, ℕ, sym, ap, length, take, drop, arith}
use Rattle.std.proofs.Common.{length-drop}
use Rattle.std.proofs.lemmas.List.{take_all}
use Rattle.ts_access.specs.Pieces.{pieces_of}
use Rattle.ts_access.proofs.Cutting.{cut_at, not_cut}
use Rattle.ts_access.proofs.piece.first_piece.Goals as goal

pub returns-then-is_at-clause-pieces : goal.returns-then-is_at-clause-pieces
returns-then-is_at-clause-pieces c =
    let octets = c.args.octets.now in
    let at = c.loop-at.at in
    let cut = cut_at c.args.mark octets at c.loop-at-test.true c.loop-at.invariant
    (sym c.is_at.ensures ∙ c.if-is_at.true) in
    let room : length (drop (at + 1) octets) ≤ length octets - (at + 1) =
    omega (arith, length-drop (at + 1) octets) in
    let all = take_all (length octets - (at + 1)) (drop (at + 1) octets) room in
    cut ∙ ap (λ (rest : List ℕ). take at octets ∷ pieces_of c.args.mark rest) (sym all)

pub returns-clause-pieces : goal.returns-clause-pieces
returns-clause-pieces c =
    not_cut c.args.mark c.args.octets.now (λ k within. c.loop-at.invariant k (omega arith))
