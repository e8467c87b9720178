-- Fronts of chains that no valid chain has.
use Rattle.std.specs.Prelude.{◌≡◌, ◌⊎◌, ℕ, List, [], ◌∷◌, ◌++◌, map, Vec}
use Rattle.std.specs.declared.alloc.Global.{Global}
use Rattle.std.specs.List.{AllByRecursion}
use Rattle.ts_cert.specs.Certificate.{Certificate}
use Rattle.ts_path.specs.Asked.{TrustAnchor, ValidationInputs}
use Rattle.ts_search.specs.Search.{certificates_at, question, IsValidChain}

-- under the anchor no chain of these certificates is valid whose first places are these
unfoldable pub IsDead : (TrustAnchor → ValidationInputs) → List Certificate → TrustAnchor → List ℕ
    → Type 0
IsDead asked certificates anchor front = (rest : List ℕ)
    → ¬ (IsValidChain (question asked (certificates_at certificates (front ++ rest)) anchor))

-- each of these fronts
abbrev pub AreDead : (TrustAnchor → ValidationInputs) → List Certificate → TrustAnchor
    → List (List ℕ)
    → Type 0
AreDead asked certificates anchor fronts = AllByRecursion (IsDead asked certificates anchor) fronts

-- for each anchor its own fronts
abbrev pub AreDeadUnder : (TrustAnchor → ValidationInputs) → List Certificate → List TrustAnchor
    → List (List (List ℕ)) → Type 0
AreDeadUnder asked certificates [] rows = Unit {0}
AreDeadUnder asked certificates (anchor ∷ anchors) [] = Unit {0}
AreDeadUnder asked certificates (anchor ∷ anchors) (fronts ∷ rows) =
    AreDead asked certificates anchor fronts × AreDeadUnder asked certificates anchors rows

abbrev pub fronts_in : List (Vec (Vec ℕ Global) Global) → List (List (List ℕ))
fronts_in rows = map (λ fronts. map (λ front. front.items) fronts.items) rows

-- a chain begins with one of the fronts
abbrev pub BeginsWithOne : List (List ℕ) → List ℕ → Type 0
BeginsWithOne [] chain = ⊥
BeginsWithOne (front ∷ fronts) chain =
    ((rest : List ℕ) × (chain ≡ front ++ rest)) ⊎ BeginsWithOne fronts chain
