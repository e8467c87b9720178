-- `eq` of two iterators that show the octets they have left.
use Rattle.std.proofs.Common.{◌≡◌, ◌↔◌, ℕ, Bool, true, false, eqb, IsTrue, Option, Some, None, List, [], ◌∷◌, ◌++◌, sym, ap, ◌∙◌}
use Rattle.std.specs.Option.{MatchOption, IfSome}
use Rattle.std.specs.Iterator.{Yields, YieldsFirst, ComparesItemsByEq}
use Rattle.std.proofs.lemmas.Bool.{eqb-true, eqb-false, false≢true}
use Rattle.std.proofs.lemmas.List.{append_cancel_left}
use Rattle.std.proofs.lemmas.List.Elements.{same_from_all_zip}

yielded : {S : Type 0} (rest : S → List ℕ) (xs : List ℕ) (s t : S) → Yields (YieldsFirst rest) s xs t → rest s ≡ xs ++ rest t
yielded rest [] s t y = ap rest y
yielded rest (x ∷ xs) s t y = y.1 ∙ ap (λ (l : List ℕ). x ∷ l) (yielded rest xs y.0 t y.2)

-- what a call found before l', where l was left
abbrev Found : Option ℕ → List ℕ → List ℕ → Type 0
Found o l l' = MatchOption o ((l ≡ []) × (l' ≡ [])) (λ x. l ≡ x ∷ l')

apart : (r : Bool) (xs l m : List ℕ) → r ≡ false → (l ≡ m → ⊥) → IsTrue r ↔ (xs ++ l ≡ xs ++ m)
apart r xs l m e ne = (λ t. absurd (false≢true (sym e ∙ t)), λ s. absurd (ne (append_cancel_left xs l m s)))

ended : (r : Bool) (xs l l' m m' : List ℕ) (o p : Option ℕ) → Found o l l' → Found p m m'
    → MatchOption o (MatchOption p (r ≡ true) (λ _. r ≡ false)) (λ x. (r ≡ false) × IfSome p (λ y. eqb x y ≡ false)) → IsTrue r ↔ (xs ++ l ≡ xs ++ m)
ended r xs l l' m m' None None a b e = (λ _. ap (λ (t : List ℕ). xs ++ t) (a.0 ∙ sym b.0), λ _. e)
ended r xs l l' m m' None (Some y) a b e = apart r xs l m e (λ s. let n = a.0 in cc)
ended r xs l l' m m' (Some x) None a b e = apart r xs l m e.0 (λ s. let n = b.0 in cc)
ended r xs l l' m m' (Some x) (Some y) a b e = apart r xs l m e.0 (λ s. eqb-false x y e.1 (cc))

-- it tells whether they have the same octets left
pub same_left : {S : Type 0} (rest : S → List ℕ) (s other : S) (r : Bool) → ComparesItemsByEq (YieldsFirst rest) (λ x y. y ≡ x) (YieldsFirst rest) s other eqb r → IsTrue r ↔ (rest s ≡ rest other)
same_left rest s other r (it, xs, ys, o, p, u, v, is, first, second, same, last) =
    let ys-is : ys ≡ xs = same_from_all_zip (λ x y. eqb x y ≡ true) xs ys same (λ x y e. sym (eqb-true x y e)) in
    let of_s = yielded rest xs s first.0 first.1 in
    let of_other : rest other ≡ xs ++ rest second.0 = ap rest (sym is) ∙ yielded rest ys it second.0 second.1 ∙ ap (λ (zs : List ℕ). zs ++ rest second.0) ys-is in
    rw (of_s, of_other) (ended r xs (rest first.0) (rest u) (rest second.0) (rest v) o p first.2 second.2 last)
