-- Purposes that are borrowed, one by one.
use Rattle.std.proofs.Common.{◌≡◌, ◌∙◌, ◌≤◌, ◌<◌, ◌+◌, ◌++◌, ◌∷◌, ◌&&◌, ℕ, List, [], Option, Some, Bool, true, false, Bor, length, map, take, get_or, slice_set, sym, ap, subst, refl}
use Rattle.std.specs.Prelude.{nat_le}
use Rattle.std.proofs.lemmas.Bool.{leb-true}
use Rattle.std.proofs.lemmas.List.{take_more, take_more_set}
use Rattle.ts_command.specs.Purposes.{ArePurposes, is_ascending}

map_more : {A B : Type 0} (f : A → B) (xs : List A) (y : A) → map f (xs ++ y ∷ []) ≡ map f xs ++ f y ∷ []
map_more f [] y = refl
map_more f (x ∷ xs) y = ap (λ l. f x ∷ l) (map_more f xs y)

pub one_copied : (contents : List (Bor (List ℕ))) (oids : List (List ℕ)) (n : ℕ) (x : Bor (List ℕ))
    (o : List ℕ) → map (λ c. c.now) (take n contents) ≡ take n oids → n < length contents
    → n < length oids → x.now ≡ o → o ≡ get_or oids n o
    → map (λ c. c.now) (take (n + 1) (slice_set contents n x)) ≡ take (n + 1) oids
one_copied contents oids n x o before room more is from =
    ap (map (λ (c : Bor (List ℕ)). c.now)) (take_more_set contents n x room)
    ∙ map_more (λ (c : Bor (List ℕ)). c.now) (take n contents) x
    ∙ (λ i. before i ++ (is ∙ from) i ∷ [])
    ∙ sym (take_more oids n o more)

first : (a b : Bool) → a && b ≡ true → a ≡ true
first true b is = refl
first false b is = absurd (cc is)

pub few : (purposes : Option (List (List ℕ))) (oids : List (List ℕ)) → Some oids ≡ purposes → ArePurposes purposes → length oids ≤ 16
few purposes oids is are = let h = subst ArePurposes (sym is) are in leb-true (length oids) 16 (first (nat_le (length oids) 16) (is_ascending oids) h.0)
