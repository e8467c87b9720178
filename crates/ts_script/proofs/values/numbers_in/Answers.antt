-- A piece that is no number makes the value none of numbers.
use Rattle.std.proofs.Common.{◌≡◌, ◌∷◌, ℕ, List, Bor, map, option_map}
use Rattle.std.specs.Fmt.{decimal}
use Rattle.ts_script.specs.Pieces.{pieces_behind}
use Rattle.ts_script.proofs.Decoding.{no_numbers}
use Rattle.ts_script.proofs.values.numbers_in.Goals as goal

abbrev here : Bor (List ℕ) → List ℕ
here rest = rest.now

pub returns-in_default-number_of_octets-clause-fault : goal.returns-in_default-number_of_octets-clause-fault
returns-in_default-number_of_octets-clause-fault c =
    let left = pieces_behind 44 (option_map here c.loop-rest.rest) in
    let behind = pieces_behind 44 (option_map here c.first_piece.result.1) in
    let split : left ≡ c.first_piece.result.0.now ∷ behind = rw c.in-Some.is c.first_piece.ensures in
    no_numbers c.args.value.now (map decimal c.loop-rest.numbers.items) left behind c.first_piece.result.0.now c.loop-rest.invariant.pieces split c.in_default-number_of_octets.ensures
