-- After two object identifiers nothing stands.
use Rattle.std.proofs.Common.{◌≡◌, ◌∷◌, ◌∙◌, ℕ, List, Bor, Option, option_map, sym, subst, ap}
use Rattle.ts_script.specs.Pieces.{pieces_of, pieces_behind}
use Rattle.ts_script.proofs.Answering.{ok_some}
use Rattle.ts_script.proofs.Cutting.{behind_some, behind_two}
use Rattle.ts_script.proofs.extension_words.mapping_in.Goals as goal

abbrev here : Bor (List ℕ) → List ℕ
here rest = rest.now

pub returns-then-is_some-clause-fault : goal.returns-then-is_some-clause-fault
returns-then-is_some-clause-fault c = λ parts is.
    let value = c.args.value.now in
    let left = c.first_piece.result.0.now in
    let right = ok_some c.first_piece.result.1 c.in_ok-ok_or.field-0 c.in_ok-ok_or.ensures.value in
    let cut = subst (λ (o : Option (Bor (List ℕ))). pieces_of 62 value ≡ left ∷ pieces_behind 62 (option_map here o)) right c.first_piece.ensures in
    let whole = cut ∙ ap (λ (ps : List (List ℕ)). left ∷ ps) c.first_piece-2.ensures in
    behind_some here 62 c.first_piece-2.result.1 (sym c.is_some.ensures ∙ c.if-is_some.true) (behind_two whole is.2.pieces)
