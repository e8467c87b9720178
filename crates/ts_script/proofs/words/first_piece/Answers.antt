-- The octets are cut at the first mark.
use Rattle.std.proofs.Common.{◌≤◌, ◌∙◌, ◌+◌, ◌-◌, ◌∷◌, List, ℕ, sym, ap, length, take, drop, arith, length-drop}
use Rattle.std.proofs.lemmas.List.{take_all}
use Rattle.ts_script.specs.Pieces.{pieces_of}
use Rattle.ts_script.proofs.Cutting.{cut_at, not_cut}
use Rattle.ts_script.proofs.words.first_piece.Goals as goal

pub returns-then-octets-at : goal.returns-then-octets-at
returns-then-octets-at c =
    let octets = c.args.octets.now in
    let cut = cut_at c.args.mark octets c.loop-at.at c.loop-at-test.true c.loop-at.invariant c.if-octets-at.true in
    let room : length (drop (c.loop-at.at + 1) octets) ≤ length octets - (c.loop-at.at + 1) = omega (arith, length-drop (c.loop-at.at + 1) octets) in
    let all = take_all (length octets - (c.loop-at.at + 1)) (drop (c.loop-at.at + 1) octets) room in
    cut ∙ ap (λ (rest : List ℕ). take c.loop-at.at octets ∷ pieces_of c.args.mark rest) (sym all)

pub returns : goal.returns
returns c = not_cut c.args.mark c.args.octets.now (λ k within. c.loop-at.invariant k (omega arith))
