-- Lines that are written part by part, and the certificate at a place of a question.
use Rattle.std.proofs.Common.{◌≡◌, ◌∙◌, ◌∷◌, ◌++◌, ◌-◌, ◌<◌, ℕ, zero, suc, List, [], Vec, Global, map, length, slice_index_or, refl, sym, ap, arith, append_assoc}
use Rattle.std.proofs.lemmas.List.{length-map}

-- what is written behind one another is one text
pub four_parts : (a b c d x y z : List ℕ) → x ≡ a ++ b → y ≡ x ++ c → z ≡ y ++ d → z ≡ a ++ (b ++ (c ++ d))
four_parts a b c d x y z first second third =
    third
    ∙ (ap (λ (t : List ℕ). t ++ d) (second ∙ ap (λ (t : List ℕ). t ++ c) first)
    ∙ (append_assoc (a ++ b) c d ∙ append_assoc a b (c ++ d)))

abbrev items : List (Vec ℕ Global) → List (List ℕ)
items xs = map (λ (x : Vec ℕ Global). x.items) xs

at_index : (xs : List (Vec ℕ Global)) (i : ℕ) (v : Vec ℕ Global) → i < length xs → slice_index_or (items xs) i [] ≡ (slice_index_or xs i v).items
at_index [] i v below = absurd (omega (arith, below))
at_index (x ∷ xs) zero v below = refl
at_index (x ∷ xs) (suc i) v below = at_index xs i v (omega (arith, below))

pub lengths : (xs : List (Vec ℕ Global)) (cs : List (List ℕ)) → items xs ≡ cs → length xs ≡ length cs
lengths xs cs are = sym (length-map xs (λ (x : Vec ℕ Global). x.items)) ∙ ap length are

-- the octets of the certificate at a place
pub octets_at : (xs : List (Vec ℕ Global)) (cs : List (List ℕ)) (i place : ℕ) (v : Vec ℕ Global) (octets : List ℕ)
    → items xs ≡ cs → i ≡ place - 1 → i < length xs → v ≡ slice_index_or xs i v → octets ≡ v.items
    → (place - 1 < length cs) × (slice_index_or cs (place - 1) [] ≡ octets)
octets_at xs cs i place v octets are at below is same = (
  omega (arith, at, below, lengths xs cs are),
  ap (λ (ys : List (List ℕ)). slice_index_or ys (place - 1) []) (sym are)
      ∙ (ap (λ (j : ℕ). slice_index_or (items xs) j []) (sym at)
      ∙ (at_index xs i v below ∙ (ap (λ (w : Vec ℕ Global). w.items) (sym is) ∙ sym same))),
)
