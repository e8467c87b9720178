-- The first item that repeats an earlier one: what counts of the keys seen, and what it has with collisions to do.
use Rattle.std.proofs.Common.{◌≡◌, ◌<◌, ◌≤◌, ◌+◌, ◌-◌, subst, ℕ, zero, suc, length, Bool, true}
use Rattle.std.proofs.Common.{false, cond, ◌||◌, List, [], ◌∷◌, ◌++◌, take, drop, Option, Some}
use Rattle.std.proofs.Common.{None, option_map, Result, Ok, Err, bytes_eq, refl, sym, ap, ◌∙◌}
use Rattle.std.proofs.Common.{arith}
use Rattle.std.specs.Option.{is_some}
use Rattle.std.proofs.lemmas.Bool.{false≢true}
use Rattle.std.proofs.lemmas.List.{length-append, take-append-drop}
use Rattle.std.proofs.lemmas.List.Folds.{list_any-append}
use Rattle.std.proofs.Math.Bool.{or-true}
use Rattle.ts_der.specs.declared.fault.Fault.{Fault}
use Rattle.ts_der.specs.Element.{Place, Tlv}
use Rattle.ts_der.specs.Reading.{is_end}
use Rattle.ts_shape.specs.Items.{each, first_then, upto_from, items_at}
use Rattle.ts_shape.specs.Repeats.{is_among, first_repeated}
use Rattle.ts_shape.specs.inside.Collisions.{AreCollisions}
use Rattle.ts_shape.proofs.KeyTables.{itself, some-none}

if-some : {A : Type 0} (b : Bool) (x : A) (r q : Option A) → ((q ≡ None → ⊥) → r ≡ q) → (cond b (Some x) q ≡ None → ⊥) → cond b (Some x) r ≡ cond b (Some x) q
if-some true x r q h some = refl
if-some false x r q h some = h some

pub not-seen : (b c : Bool) → (b ≡ true → c ≡ true) → c ≡ false → b ≡ false
not-seen false c h e = refl
not-seen true c h e = absurd (false≢true (sym e ∙ h refl))

module _ {A : Type 0} (key : A → List ℕ) where
  -- the next item has a new key, which is then seen
  pub seen-next : (s : List (List ℕ)) (xs : List A) (x : A) (ys : List A) → xs ≡ x ∷ ys → is_among (key x) s ≡ false → first_repeated key s xs ≡ first_repeated key (key x ∷ s) ys
  unfolding first_repeated
  seen-next s xs x ys e new = rw e (ap (λ b. cond b (Some x) (first_repeated key (key x ∷ s) ys)) new)

  -- no item is left
  pub seen-end : (s : List (List ℕ)) (xs : List A) → xs ≡ [] → first_repeated key s xs ≡ None
  unfolding first_repeated
  seen-end s xs e = rw e refl

  pub taken : (xs : List A) (x : A) (ys : List A) (n m : ℕ) → xs ≡ x ∷ ys → n ≡ suc m → take n xs ≡ x ∷ take m ys
  taken xs x ys n m e some = rw (some, e) refl

  -- the same for the first of the items
  pub next-new : (s : List (List ℕ)) (xs : List A) (x : A) (ys : List A) (n m : ℕ) → xs ≡ x ∷ ys
      → n ≡ suc m → is_among (key x) s ≡ false
      → first_repeated key s (take n xs) ≡ first_repeated key (key x ∷ s) (take m ys)
  next-new s xs x ys n m e some new = seen-next s (take n xs) x (take m ys) (taken xs x ys n m e some) new

  -- the next item has a key that was seen
  pub next-met : (s : List (List ℕ)) (xs : List A) (x : A) (ys : List A) (n m : ℕ) → xs ≡ x ∷ ys → n ≡ suc m → is_among (key x) s ≡ true → first_repeated key s (take n xs) ≡ Some x
  unfolding first_repeated
  next-met s xs x ys n m e some met = rw (some, e) (ap (λ b. cond b (Some x) (first_repeated key (key x ∷ s) (take m ys))) met)

  -- no item is left of the first of them
  pub next-none : (s : List (List ℕ)) (xs : List A) (n : ℕ) → xs ≡ [] → first_repeated key s (take n xs) ≡ None
  next-none s xs zero e = seen-end s (take zero xs) refl
  next-none s xs (suc n) e = seen-end s (take (suc n) xs) (rw e refl)

  -- among items of which none repeats another the next is new
  pub next-distinct : (s : List (List ℕ)) (x : A) (ys : List A) → first_repeated key s (x ∷ ys) ≡ None → (is_among (key x) s ≡ false) × (first_repeated key (key x ∷ s) ys ≡ None)
  unfolding first_repeated
  next-distinct s x ys e = by_test (is_among (key x) s) e
    where
      by_test : (b : Bool) → cond b (Some x) (first_repeated key (key x ∷ s) ys) ≡ None → (b ≡ false) × (first_repeated key (key x ∷ s) ys ≡ None)
      by_test true none = absurd (some-none x none)
      by_test false none = (refl, none)

  -- the first repeat is that of the items before, if there is one
  pub repeat-ahead : (s : List (List ℕ)) (front ys : List A) → (first_repeated key s front ≡ None → ⊥) → first_repeated key s (front ++ ys) ≡ first_repeated key s front
  unfolding first_repeated
  repeat-ahead s [] ys some = absurd (some refl)
  repeat-ahead s (x ∷ front) ys some = if-some (is_among (key x) s) x _ _ (repeat-ahead (key x ∷ s) front ys) some

  -- what repeats an earlier one among the first items does so among all
  pub answered : (n : ℕ) (xs : List A) (x : A) → first_repeated key [] (take n xs) ≡ Some x → first_repeated key [] xs ≡ Some x
  answered n xs x e =
      ap (first_repeated key []) (sym (take-append-drop n xs)) ∙ repeat-ahead [] (take n xs) (drop n xs) (λ none. some-none x (sym e ∙ none)) ∙ e

  pub answered-all : {B : Type 0} (f : B → A) (o : Option B) (n : ℕ) (xs : List A) → is_some o ≡ true → option_map f o ≡ first_repeated key [] (take n xs) → option_map f o ≡ first_repeated key [] xs
  answered-all f None n xs some e = absurd (false≢true some)
  answered-all f (Some y) n xs some e = sym (answered n xs (f y) (sym e))

  -- ---- collisions

  -- the keys seen after these items
  abbrev pub seen_after : List (List ℕ) → List A → List (List ℕ)
  seen_after s [] = s
  seen_after s (x ∷ xs) = seen_after (key x ∷ s) xs

  pub after-more : (s : List (List ℕ)) (front : List A) (x : A) → seen_after s (front ++ x ∷ []) ≡ key x ∷ seen_after s front
  after-more s [] x = refl
  after-more s (y ∷ front) x = after-more (key y ∷ s) front x

  -- no item is one
  pub no-collisions : (t s : List (List ℕ)) → AreCollisions key t s []
  unfolding AreCollisions
  no-collisions t s = tt

  -- one more item, whose key is in the table if it was seen
  pub collisions-more : (t s : List (List ℕ)) (front : List A) (x : A) → AreCollisions key t s front
      → (is_among (key x) (seen_after s front) ≡ true → is_among (key x) t ≡ true)
      → AreCollisions key t s (front ++ x ∷ [])
  unfolding AreCollisions
  collisions-more t s [] x a h = (h, tt)
  collisions-more t s (y ∷ front) x a h = (a.0, collisions-more t (key y ∷ s) front x a.1 h)

  -- in a table that has the same keys and may have more
  pub collisions-in : (t u s : List (List ℕ)) (xs : List A) → ((k : List ℕ) → is_among k t ≡ true → is_among k u ≡ true) → AreCollisions key t s xs → AreCollisions key u s xs
  unfolding AreCollisions
  collisions-in t u s [] h a = tt
  collisions-in t u s (x ∷ xs) h a = ((λ e. h (key x) (a.0 e)), collisions-in t u (key x ∷ s) xs h a.1)

  -- the next of them
  pub collisions-next : (t s : List (List ℕ)) (xs : List A) (x : A) (ys : List A) (n m : ℕ) → xs ≡ x ∷ ys → n ≡ suc m → AreCollisions key t s (take n xs)
      → (is_among (key x) s ≡ true → is_among (key x) t ≡ true) × AreCollisions key t (key x ∷ s) (take m ys)
  unfolding AreCollisions
  collisions-next t s xs x ys n m e some a = subst (λ (zs : List A). AreCollisions key t s zs) (taken xs x ys n m e some) a

  -- where the table is empty, none repeats another
  pub none-colliding : (s : List (List ℕ)) (xs : List A) → AreCollisions key [] s xs → first_repeated key s xs ≡ None
  unfolding AreCollisions first_repeated
  none-colliding s [] a = refl
  none-colliding s (x ∷ xs) a =
      ap (λ b. cond b (Some x) (first_repeated key (key x ∷ s) xs)) (not-seen (is_among (key x) s) false a.0 refl) ∙ none-colliding (key x ∷ s) xs a.1

  -- of items that are known to be distinct up to a place, and others
  pub distinct-next : (s : List (List ℕ)) (xs : List A) (x : A) (ys : List A) (known passed : ℕ) → xs ≡ x ∷ ys → first_repeated key s (take (known - passed) xs) ≡ None
      → (passed < known → is_among (key x) s ≡ false) × (first_repeated key (key x ∷ s) (take (known - (passed + 1)) ys) ≡ None)
  distinct-next s xs x ys known passed e none = by_left (known - passed) refl
    where
      by_left : (n : ℕ) → known - passed ≡ n → (passed < known → is_among (key x) s ≡ false) × (first_repeated key (key x ∷ s) (take (known - (passed + 1)) ys) ≡ None)
      by_left zero left =
          let no : known - (passed + 1) ≡ 0 = omega arith in (
            (λ lt. absurd (omega arith)),
            ap (λ (n : ℕ). first_repeated key (key x ∷ s) (take n ys)) no ∙ seen-end (key x ∷ s) (take 0 ys) refl,
          )
      by_left (suc m) left =
          let less : known - (passed + 1) ≡ m = omega arith in
          let next = next-distinct s x (take m ys) (subst (λ (zs : List A). first_repeated key s zs ≡ None) (taken xs x ys (known - passed) m e left) none) in
          ((λ lt. next.0), ap (λ (n : ℕ). first_repeated key (key x ∷ s) (take n ys)) less ∙ next.1)

-- a key is among those before it and itself
pub among-last : (keys : List (List ℕ)) (k : List ℕ) → is_among k (keys ++ k ∷ []) ≡ true
among-last keys k = list_any-append (bytes_eq k) keys (k ∷ []) ∙ ap (λ b. is_among k keys || (b || false)) (itself k) ∙ or-true (is_among k keys)

-- and what is among these is among more
pub among-more : (keys : List (List ℕ)) (l k : List ℕ) → is_among k keys ≡ true → is_among k (keys ++ l ∷ []) ≡ true
among-more keys l k e = list_any-append (bytes_eq k) keys (l ∷ []) ∙ ap (λ b. b || (bytes_eq k l || false)) e

-- ---- how many items there are

-- those in front of another one are fewer than all
pub front-fewer : {A : Type 0} (xs front : List A) (x : A) (ys zs : List A) → xs ≡ front ++ ys → ys ≡ x ∷ zs → length front < length xs
front-fewer xs front x ys zs e next = rw (e, next) (let all = length-append front (x ∷ zs) in omega arith)

first-length : {A : Type 0} (b : Bool) (r : Result (A × Place) Fault) (others : Place → List A) (n : ℕ) → ((here : Place) → length (others here) ≤ n) → length (cond b [] (first_then r others)) ≤ suc n
first-length true r others n h = omega arith
first-length false (Ok x) others n h = let le = h x.1 in omega arith
first-length false (Err f) others n h = omega arith

upto-length : {A : Type 0} (value : Tlv → Result A Fault) (n : ℕ) (here : Place) → length (upto_from n value here) ≤ n
upto-length value zero here = omega arith
upto-length value (suc n) here = first-length (is_end here.rest) (each value here) (upto_from n value) n (upto-length value n)

-- there are no more items than octets
pub walk-length : {A : Type 0} (value : Tlv → Result A Fault) (here : Place) → length (items_at value here) ≤ length here.rest
unfolding items_at
walk-length value here = upto-length value (length here.rest) here
