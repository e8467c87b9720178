-- After a serial number and a reason nothing stands.
use Rattle.std.proofs.Common.{◌≡◌, ◌∷◌, ◌∙◌, ℕ, List, Bor, Option, option_map, sym, subst, ap}
use Rattle.ts_script.specs.Pieces.{pieces_of, pieces_behind}
use Rattle.ts_script.proofs.Cutting.{behind_some, behind_two}
use Rattle.ts_script.proofs.crl_words.entry_of.Goals as goal

abbrev here : Bor (List ℕ) → List ℕ
here rest = rest.now

pub returns-then-is_some : goal.returns-then-is_some
returns-then-is_some c = λ entry is.
    let value = c.args.value.now in
    let left = c.first_piece.result.0.now in
    let cut = subst (λ (o : Option (Bor (List ℕ))). pieces_of 58 value ≡ left ∷ pieces_behind 58 (option_map here o)) c.in_ok-rest.was c.first_piece.ensures in
    let whole = cut ∙ ap (λ (ps : List (List ℕ)). left ∷ ps) c.first_piece-2.ensures in
    behind_some here 58 c.first_piece-2.result.1 (sym c.is_some.ensures ∙ c.if-is_some.true) (behind_two whole is.pieces)
