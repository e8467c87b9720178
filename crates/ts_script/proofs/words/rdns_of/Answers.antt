-- A piece that is no relative distinguished name makes the word none.
use Rattle.std.proofs.Common.{◌≡◌, ◌∷◌, ℕ, List, Bor, map, option_map}
use Rattle.ts_script.specs.Pieces.{pieces_behind}
use Rattle.ts_script.specs.Words.{rdn_word}
use Rattle.ts_script.proofs.Encoding.{no_dn}
use Rattle.ts_script.proofs.words.rdns_of.Goals as goal

abbrev here : Bor (List ℕ) → List ℕ
here rest = rest.now

pub returns-in_default-rdn_of-clause-fault : goal.returns-in_default-rdn_of-clause-fault
returns-in_default-rdn_of-clause-fault c =
    let left = pieces_behind 47 (option_map here c.loop-rest.rest) in
    let behind = pieces_behind 47 (option_map here c.first_piece.result.1) in
    let split : left ≡ c.first_piece.result.0.now ∷ behind = rw c.in-Some.is c.first_piece.ensures in
    no_dn c.args.word.now (map rdn_word c.loop-rest.rdns.items) left behind c.first_piece.result.0.now c.loop-rest.invariant.pieces split c.in_default-rdn_of.ensures
