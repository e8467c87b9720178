-- Where an id is found among commands, and among more.
use Rattle.std.proofs.Common.{arith, nat_le, ◌+◌, ◌<◌, ◌≡◌, ◌∙◌, ◌++◌, ◌∷◌, ◌==◌, ◌≢◌, ℕ, suc, List, [], Option, Some, None, Bool, true, false, is_some, length, drop, refl, sym, ap, if◌then◌else◌}
use Rattle.std.proofs.lemmas.List.{take-append-drop}
use Rattle.std.proofs.lemmas.Bool.Decides.{Decides-eqb, nat_tests}
use Rattle.ts_synod.proofs.Sets.{and_true, by_test}
use Rattle.ts_synod.specs.Store.{Settling, Store, found_command, same_id, settling}
use Rattle.ts_synod.specs.Config.{Config}
use Rattle.ts_synod.specs.Log.{last_position, next_position, prefix}
use Rattle.ts_synod.specs.Node.{position_for}
use Rattle.ts_node.specs.Growing.{has_id}
use Rattle.ts_node.specs.Machine.{settling_as}
use Rattle.ts_node.proofs.Prefix.{Extends, prefix_drop, prefix_extends}

pub same_refl : (a : List ℕ) → same_id a a ≡ true
same_refl [] = refl
same_refl (x ∷ xs) = rw ((Decides-eqb x x).1 refl, same_refl xs) refl

same_is : (a b : List ℕ) → same_id a b ≡ true → a ≡ b
same_is [] [] h = refl
same_is [] (y ∷ ys) h = absurd (cc)
same_is (x ∷ xs) [] h = absurd (cc)
same_is (x ∷ xs) (y ∷ ys) h = let both = and_true (x == y) (same_id xs ys) h in let e = (Decides-eqb x y).0 both.0 in let f = same_is xs ys both.1 in cc

-- a test of equality is the test of ids
pub by_equality : (r : Bool) (a b : List ℕ) → (r ≡ true → a ≡ b) → (r ≡ false → a ≢ b) → r ≡ same_id a b
by_equality r a b same other = go r (same_id a b) refl refl
  where
    go : (t s : Bool) → r ≡ t → same_id a b ≡ s → r ≡ same_id a b
    go true true e f = cc
    go false false e f = cc
    go true false e f = let is = sym (ap (same_id a) (sym (same e)) ∙ same_refl a) in absurd (cc)
    go false true e f = absurd (other e (same_is a b f))

module _ {C O T Q V : Type 0} (store : Store C O T Q V) (id : List ℕ) where
  test : (b : Bool) (s : Settling O) (rest : Option (Settling O)) (more : Bool) → is_some rest ≡ more → is_some (if b then Some s else rest) ≡ (if b then true else more)
  test true s rest more e = refl
  test false s rest more e = e

  found_any : (t : T) (p : ℕ) (cs : List C) → is_some (found_command store id t p cs) ≡ has_id store.id_of id cs
  found_any t p [] = refl
  found_any t p (c ∷ cs) =
      test (same_id (store.id_of c) id) (record { position = p; outcome = (store.step t c).1 })
      (found_command store id (store.step t c).0 (suc p) cs) (has_id store.id_of id cs)
      (found_any (store.step t c).0 (suc p) cs)

  has_first : (xs ys : List C) → has_id store.id_of id xs ≡ true → has_id store.id_of id (xs ++ ys) ≡ true
  has_first [] ys h = absurd (cc)
  has_first (x ∷ xs) ys h = go (has_first xs ys) (same_id (store.id_of x) id) h
    where
      go : (has_id store.id_of id xs ≡ true → has_id store.id_of id (xs ++ ys) ≡ true) → (b : Bool)
          → (if b then true else has_id store.id_of id xs) ≡ true
          → (if b then true else has_id store.id_of id (xs ++ ys)) ≡ true
      go rest true e = refl
      go rest false e = rest e

  has_second : (xs ys : List C) → has_id store.id_of id xs ≡ false → has_id store.id_of id (xs ++ ys) ≡ has_id store.id_of id ys
  has_second [] ys h = refl
  has_second (x ∷ xs) ys h = go (has_second xs ys) (same_id (store.id_of x) id) h
    where
      go : (has_id store.id_of id xs ≡ false
          → has_id store.id_of id (xs ++ ys) ≡ has_id store.id_of id ys) → (b : Bool)
          → (if b then true else has_id store.id_of id xs) ≡ false
          → (if b then true else has_id store.id_of id (xs ++ ys)) ≡ has_id store.id_of id ys
      go rest true e = absurd (cc)
      go rest false e = rest e

  split : (f g : ℕ → Option C) → Extends f g → prefix g ≡ prefix f ++ drop (length (prefix f)) (prefix g)
  split f g more = sym (take-append-drop (length (prefix f)) (prefix g)) ∙ ap (λ xs. xs ++ drop (length (prefix f)) (prefix g)) (sym (prefix_extends f g more))

  -- an id that was found is found among more
  pub settled_first : (f g : ℕ → Option C) → Extends f g → is_some (settling store (prefix f) id) ≡ true → is_some (settling store (prefix g) id) ≡ true
  settled_first f g more h =
      found_any store.empty 1 (prefix g) ∙ ap (has_id store.id_of id) (split f g more) ∙ has_first (prefix f) (drop (length (prefix f)) (prefix g)) (sym (found_any store.empty 1 (prefix f)) ∙ h)

  -- one that was not found is found where one of those that join has it
  pub settled_second : (f g : ℕ → Option C) → Extends f g
      → is_some (settling store (prefix f) id) ≡ false
      → is_some (settling store (prefix g) id) ≡ has_id store.id_of id
      (drop (length (prefix f)) (prefix g))
  settled_second f g more h =
      found_any store.empty 1 (prefix g) ∙ ap (has_id store.id_of id) (split f g more) ∙ has_second (prefix f) (drop (length (prefix f)) (prefix g)) (sym (found_any store.empty 1 (prefix f)) ∙ h)

pub some_as : {O : Type 0} (o : Option (ℕ × O)) → is_some (settling_as o) ≡ is_some o
some_as None = refl
some_as (Some s) = refl

-- where the wanted command can be proposed
pub no_position : {C O T Q V : Type 0} (store : Store C O T Q V) (config : Config)
    (g : ℕ → Option C) (c : C) → is_some (settling store (prefix g) (store.id_of c)) ≡ true
    → position_for store config g c ≡ None
no_position store config g c h = ap (λ (b : Bool). if b then None else next_position g) h

pub a_position : {C O T Q V : Type 0} (store : Store C O T Q V) (config : Config) (g : ℕ → Option C)
    (c : C) → is_some (settling store (prefix g) (store.id_of c)) ≡ false
    → position_for store config g c ≡ next_position g
a_position store config g c h = ap (λ (b : Bool). if b then None else next_position g) h

pub next_some : {C : Type 0} (g : ℕ → Option C) (n : ℕ) → n ≡ length (prefix g) → n < 1000000 → Some (n + 1) ≡ next_position g
next_some {C} g n is low =
    by_test (λ (o : Option ℕ). Some (n + 1) ≡ o) (nat_le last_position (length (prefix g))) None (Some (suc (length (prefix g))))
    (λ t. absurd (grind (arith, nat_tests)))
    (λ _. let e : n + 1 ≡ suc (length (prefix g)) = omega arith in ap (λ k. Some k) e)

-- one of the commands that join the prefix
pub join_hit : {C : Type 0} (id_of : C → List ℕ) (id : List ℕ) (g : ℕ → Option C) (i : ℕ) (c : C)
    → i < length (prefix g) → g (i + 1) ≡ Some c → same_id (id_of c) id ≡ true
    → has_id id_of id (drop i (prefix g)) ≡ true
join_hit id_of id g i c l is hit = ap (has_id id_of id) (prefix_drop g i c l is) ∙ ap (λ (b : Bool). if b then true else has_id id_of id (drop (i + 1) (prefix g))) hit

pub join_miss : {C : Type 0} (id_of : C → List ℕ) (id : List ℕ) (g : ℕ → Option C) (i : ℕ) (c : C)
    → i < length (prefix g) → g (i + 1) ≡ Some c → same_id (id_of c) id ≡ false
    → has_id id_of id (drop i (prefix g)) ≡ has_id id_of id (drop (i + 1) (prefix g))
join_miss id_of id g i c l is miss = ap (has_id id_of id) (prefix_drop g i c l is) ∙ ap (λ (b : Bool). if b then true else has_id id_of id (drop (i + 1) (prefix g))) miss
