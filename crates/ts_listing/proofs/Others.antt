-- One more row, and those that are not among others.
use Rattle.std.proofs.Common.{◌≡◌, ◌∙◌, ◌++◌, ◌∷◌, ◌+◌, ◌<◌, ◌||◌, ℕ, true, false, not, cond, List, [], Vec, Global, map, take, length, get_or, refl, sym, ap}
use Rattle.std.specs.Borrow.{Bor}
use Rattle.std.specs.List.{list_any}
use Rattle.std.specs.Str.{bytes_eq}
use Rattle.std.proofs.lemmas.List.{append-nil, map-append, take_more}
use Rattle.std.proofs.lemmas.List.Elements.{filter-append}
use Rattle.ts_listing.specs.Changes.{missing}

abbrev octets_of : Vec ℕ Global → List ℕ
octets_of row = row.items

abbrev octets_in : Bor (List ℕ) → List ℕ
octets_in row = row.now

among : (row : List ℕ) (others : List (Vec ℕ Global)) → list_any (λ (other : Vec ℕ Global). bytes_eq row other.items) others ≡ list_any (bytes_eq row) (map octets_of others)
among row [] = refl
among row (other ∷ others) = ap (λ b. bytes_eq row other.items || b) (among row others)

module _ (others rows : List (Vec ℕ Global)) (i : ℕ) (row : Vec ℕ Global) (within : i < length rows) (here : row ≡ get_or rows i row) where
  one_more : missing (map octets_of others) (map octets_of (take (i + 1) rows)) ≡ missing (map octets_of others) (map octets_of (take i rows)) ++ missing (map octets_of others) (row.items ∷ [])
  one_more =
      ap (λ (l : List (Vec ℕ Global)). missing (map octets_of others) (map octets_of l)) (take_more rows i row within ∙ ap (λ (x : Vec ℕ Global). take i rows ++ x ∷ []) (sym here))
      ∙ ap (missing (map octets_of others)) (map-append octets_of (take i rows) (row ∷ []))
      ∙ filter-append (λ r. not (list_any (bytes_eq r) (map octets_of others))) (map octets_of (take i rows)) (row.items ∷ [])

  -- a row that is among them is left out
  pub left_out : (kept : List (Bor (List ℕ)))
      → map octets_in kept ≡ missing (map octets_of others) (map octets_of (take i rows))
      → list_any (λ (other : Vec ℕ Global). bytes_eq row.items other.items) others ≡ true
      → map octets_in kept ≡ missing (map octets_of others) (map octets_of (take (i + 1) rows))
  left_out kept so_far is =
      so_far ∙ sym (append-nil _)
      ∙ ap (λ b. missing (map octets_of others) (map octets_of (take i rows)) ++ cond (not b) (row.items ∷ []) []) (sym (sym (among row.items others) ∙ is))
      ∙ sym one_more

  -- another one is kept
  pub kept_more : (kept next : List (Bor (List ℕ))) (borrowed : Bor (List ℕ))
      → map octets_in kept ≡ missing (map octets_of others) (map octets_of (take i rows))
      → list_any (λ (other : Vec ℕ Global). bytes_eq row.items other.items) others ≡ false
      → borrowed.now ≡ row.items → next ≡ kept ++ borrowed ∷ []
      → map octets_in next ≡ missing (map octets_of others) (map octets_of (take (i + 1) rows))
  kept_more kept next borrowed so_far is same pushed =
      ap (map octets_in) pushed ∙ map-append octets_in kept (borrowed ∷ [])
      ∙ (λ j. so_far j ++ same j ∷ [])
      ∙ ap (λ b. missing (map octets_of others) (map octets_of (take i rows)) ++ cond (not b) (row.items ∷ []) []) (sym (sym (among row.items others) ∙ is))
      ∙ sym one_more
