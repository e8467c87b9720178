-- Membership, through the functions on lists.
use Rattle.std.proofs.Common.{◌≡◌, ℕ, zero, suc, Bool, true, false, ◌&&◌, ◌||◌, cond, List, [], ◌∷◌}
use Rattle.std.proofs.Common.{◌++◌, map, filter, flat_map, refl, sym, ap, ◌∙◌, subst, inl, inr, ◌⊎◌}
use Rattle.std.proofs.Common.{true≢false, Contains, length, get_or, ◌<◌, arith}
use Rattle.std.specs.List.{list_any}
use Rattle.ts_policy.proofs.Same.{same-eq, eq-from_same}
use Rattle.ts_policy.specs.Labels.{Label, same, In, has}

pub In-append_left : {X : Type 0} (x : X) (xs ys : List X) → In x xs → In x (xs ++ ys)
In-append_left x [] ys h = absurd h
In-append_left x (y ∷ xs) ys (inl e) = inl e
In-append_left x (y ∷ xs) ys (inr h) = inr (In-append_left x xs ys h)

pub In-append_right : {X : Type 0} (x : X) (xs ys : List X) → In x ys → In x (xs ++ ys)
In-append_right x [] ys h = h
In-append_right x (y ∷ xs) ys h = inr (In-append_right x xs ys h)

pub In-append_cases : {X : Type 0} (x : X) (xs ys : List X) → In x (xs ++ ys) → In x xs ⊎ In x ys
In-append_cases x [] ys h = inr h
In-append_cases x (y ∷ xs) ys (inl e) = inl (inl e)
In-append_cases x (y ∷ xs) ys (inr h) = elim (In-append_cases x xs ys h) [ inl a ↦ inl (inr a) | inr b ↦ inr b ]

pub In-map : {X Y : Type 0} (f : X → Y) (x : X) (xs : List X) → In x xs → In (f x) (map f xs)
In-map f x [] h = absurd h
In-map f x (y ∷ xs) (inl e) = inl (ap f e)
In-map f x (y ∷ xs) (inr h) = inr (In-map f x xs h)

pub In-from_map : {X Y : Type 0} (f : X → Y) (y : Y) (xs : List X) → In y (map f xs) → (x : X) × In x xs × (f x ≡ y)
In-from_map f y [] h = absurd h
In-from_map f y (x ∷ xs) (inl e) = (x, inl refl, e)
In-from_map f y (x ∷ xs) (inr h) = let r = In-from_map f y xs h in (r.0, inr r.1, r.2)

pub In-filter : {X : Type 0} (p : X → Bool) (x : X) (xs : List X) → In x xs → p x ≡ true → In x (filter p xs)
In-filter p x [] h t = absurd h
In-filter {X} p x (y ∷ xs) (inl e) t = let P : Bool → Type 0 = λ b. In x (cond b (y ∷ filter p xs) (filter p xs)) in subst P (sym (ap p e ∙ t)) (inl e)
In-filter {X} p x (y ∷ xs) (inr h) t =
    elim (p y) as (λ b. In x (cond b (y ∷ filter p xs) (filter p xs))) [ true ↦ inr (In-filter p x xs h t) | false ↦ In-filter p x xs h t ]

pub In-from_filter : {X : Type 0} (p : X → Bool) (x : X) (xs : List X) → In x (filter p xs) → In x xs × (p x ≡ true)
In-from_filter p x [] h = absurd h
In-from_filter {X} p x (y ∷ xs) h =
    elim (p y) as (λ b. p y ≡ b → In x (cond b (y ∷ filter p xs) (filter p xs)) → In x (y ∷ xs) × (p x ≡ true)) [
      | true ↦ λ e h. elim h [ inl i ↦ (inl i, ap p (sym i) ∙ e) | inr k ↦ let r = In-from_filter p x xs k in (inr r.0, r.1) ]
      | false ↦ λ e k. let r = In-from_filter p x xs k in (inr r.0, r.1)
    ] refl h

pub In-flat_map : {X Y : Type 0} (f : X → List Y) (x : X) (y : Y) (xs : List X) → In x xs → In y (f x) → In y (flat_map f xs)
In-flat_map f x y [] h i = absurd h
In-flat_map {X} {Y} f x y (z ∷ xs) (inl e) i = let P : List Y → Type 0 = λ ys. In y ys in In-append_left y (f z) (flat_map f xs) (subst P (ap f (sym e)) i)
In-flat_map f x y (z ∷ xs) (inr h) i = In-append_right y (f z) (flat_map f xs) (In-flat_map f x y xs h i)

pub In-from_flat_map : {X Y : Type 0} (f : X → List Y) (y : Y) (xs : List X) → In y (flat_map f xs) → (x : X) × In x xs × In y (f x)
In-from_flat_map f y [] h = absurd h
In-from_flat_map f y (x ∷ xs) h =
    elim (In-append_cases y (f x) (flat_map f xs) h) [
      | inl a ↦ (x, inl refl, a)
      | inr b ↦ let r = In-from_flat_map f y xs b in (r.0, inr r.1, r.2)
    ]

-- a test that some element passes
pub passes : {X : Type 0} (p : X → Bool) (x : X) (xs : List X) → In x xs → p x ≡ true → list_any p xs ≡ true
passes p x [] h t = absurd h
passes p x (y ∷ xs) (inl e) t = ap (λ b. b || list_any p xs) (ap p e ∙ t)
passes {X} p x (y ∷ xs) (inr h) t = elim (p y) as (λ b. (b || list_any p xs) ≡ true) [ true ↦ refl | false ↦ passes p x xs h t ]

pub passer : {X : Type 0} (p : X → Bool) (xs : List X) → list_any p xs ≡ true → (x : X) × In x xs × (p x ≡ true)
passer p [] h = absurd (true≢false (sym h))
passer {X} p (y ∷ xs) h =
    elim (p y) as (λ b. p y ≡ b → (b || list_any p xs) ≡ true → (x : X) × In x (y ∷ xs) × (p x ≡ true)) [
      | true ↦ λ e _. (y, inl refl, e)
      | false ↦ λ _ h. let r = passer p xs h in (r.0, inr r.1, r.2)
    ] refl h

pub In-has : (p : Label) (ps : List Label) → In p ps → has ps p ≡ true
In-has p ps h = passes (λ x. same x p) p ps h (same-eq p p refl)

pub In-from_has : (p : Label) (ps : List Label) → has ps p ≡ true → In p ps
In-from_has p ps h = let r = passer (λ x. same x p) ps h in let P : Label → Type 0 = λ x. In x ps in subst P (eq-from_same r.0 p r.2) r.1

pub both : (a b : Bool) → (a && b) ≡ true → (a ≡ true) × (b ≡ true)
both true b h = (refl, h)
both false b h = absurd (true≢false (sym h))

-- a test holds or fails
pub decide : (b : Bool) → (b ≡ true) ⊎ (b ≡ false)
decide true = inl refl
decide false = inr refl

pub clash : (b : Bool) → b ≡ true → b ≡ false → ⊥
clash b t f = true≢false (sym t ∙ f)

pub if_true : {X : Type 0} (b : Bool) (x y : X) → b ≡ true → cond b x y ≡ x
if_true b x y e = ap (λ b. cond b x y) e

pub if_false : {X : Type 0} (b : Bool) (x y : X) → b ≡ false → cond b x y ≡ y
if_false b x y e = ap (λ b. cond b x y) e

pub along : {X : Type 0} (x : X) (xs ys : List X) → xs ≡ ys → In x xs → In x ys
along {X} x xs ys e h = let P : List X → Type 0 = λ zs. In x zs in subst P e h

pub moved : {X : Type 0} (x y : X) (xs : List X) → x ≡ y → In x xs → In y xs
moved {X} x y xs e h = let P : X → Type 0 = λ z. In z xs in subst P e h

pub In-from_Contains : {X : Type 0} (x : X) (xs : List X) → Contains xs x → In x xs
In-from_Contains x xs h = at x xs h.0 h.1 h.2
  where
    at : {X : Type 0} (x : X) (xs : List X) (k : ℕ) → k < length xs → get_or xs k x ≡ x → In x xs
    at x [] k lt e = absurd (omega (arith, lt))
    at x (y ∷ xs) zero lt e = inl e
    at x (y ∷ xs) (suc k) lt e = inr (at x xs k (omega (arith, lt)) e)

pub Contains-from_In : {X : Type 0} (x : X) (xs : List X) → In x xs → Contains xs x
Contains-from_In x [] h = absurd h
Contains-from_In x (y ∷ xs) (inl e) = (zero, omega arith, e)
Contains-from_In x (y ∷ xs) (inr h) = let r = Contains-from_In x xs h in (suc r.0, omega (arith, r.1), r.2)
