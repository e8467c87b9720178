-- What is left of a list, one step on.
use Rattle.std.proofs.Common.{◌≡◌, ◌∙◌, ap, sym, ℕ, ◌+◌, ◌<◌, List, ◌∷◌, drop, get_or, length, map}
use Rattle.std.proofs.lemmas.List.{drop_more}
use Rattle.serde_json.specs.Data.{item}
use Rattle.serde_json.specs.View.{items_view, view}
use Rattle.serde_json.specs.declared.value.Value.{Value}
use Rattle.ts_form.specs.Pairs.{pair_in}
use Rattle.ts_form.specs.declared.pair.Pair.{Pair}

pub next_pair : (xs : List Pair) (i : ℕ) (x : Pair) → i < length xs → x ≡ get_or xs i x → map pair_in (drop i xs) ≡ pair_in x ∷ map pair_in (drop (i + 1) xs)
next_pair xs i x h is = ap (map pair_in) (drop_more xs i x h) ∙ ap (λ p. pair_in p ∷ map pair_in (drop (i + 1) xs)) (sym is)

pub next_value : (xs : List Value) (i : ℕ) (x : Value) → i < length xs → x ≡ get_or xs i x → items_view (drop i xs) ≡ item (view x) (items_view (drop (i + 1) xs))
next_value xs i x h is = ap items_view (drop_more xs i x h) ∙ ap (λ v. item (view v) (items_view (drop (i + 1) xs))) (sym is)
