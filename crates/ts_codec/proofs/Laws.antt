-- A part is read in one way: what is read is encoded so, and what is encoded so is read.
use Rattle.std.proofs.Common.{◌≡◌, ℕ, zero, suc, ◌+◌, ◌<◌, Bool, true, false, eqb, List, [], ◌∷◌}
use Rattle.std.proofs.Common.{◌++◌, length, get_or, take, drop, Option, Some, None, Result, Ok, Err}
use Rattle.std.proofs.Common.{refl, sym, ap, subst, ◌∙◌, arith, inl, inr}
use Rattle.std.specs.Prelude.{IfOk, IfSome}
use Rattle.std.proofs.lemmas.Bool.{cases_lt, eqb-true}
use Rattle.std.proofs.lemmas.List.{length-take, get_or-drop, get_or-take, get_or_past, append-nil, nil_from_length}
use Rattle.ts_codec.specs.Reading.{Reader, ◌>>=◌, value_if, whole}

abbrev pub IsBytes : List ℕ → Type 0
IsBytes bytes = (i : ℕ) → get_or bytes i 0 < 256

pub IsBytes-drop : (n : ℕ) (bytes : List ℕ) → IsBytes bytes → IsBytes (drop n bytes)
IsBytes-drop n bytes h i = rw get_or-drop (h (n + i))

pub IsBytes-take : (n : ℕ) (bytes : List ℕ) → IsBytes bytes → IsBytes (take n bytes)
IsBytes-take n bytes h i =
    elim (cases_lt i n) [
      | inl lt ↦ rw (get_or-take n bytes i 0 lt) (h i)
      | inr le ↦ rw (get_or_past (take n bytes) i 0 (omega (arith, length-take n bytes))) (omega arith)
    ]

pub front_bytes : (a b : List ℕ) → IsBytes (a ++ b) → IsBytes a
front_bytes [] b h i = omega arith
front_bytes (x ∷ a) b h zero = h zero
front_bytes (x ∷ a) b h (suc i) = front_bytes a b (λ j. h (suc j)) i

pub back_bytes : (a b : List ℕ) → IsBytes (a ++ b) → IsBytes b
back_bytes [] b h i = h i
back_bytes (x ∷ a) b h i = back_bytes a b (λ j. h (suc j)) i

-- what a reader took from the front
pub record Takes (octets encoded rest : List ℕ) : Type 0 where
  pub is : octets ≡ encoded ++ rest
  pub more : IsBytes rest

-- the values that fit have an encoding each, and are read by it
pub record Part {A : Type 0} (encode : A → List ℕ) (Fit : A → Type 0) (read : Reader A) : Type 0 where
  pub takes : (octets : List ℕ) (x : A) (rest : List ℕ) → IsBytes octets → read octets ≡ Some (x, rest) → Takes octets (encode x) rest × Fit x
  pub again : (x : A) (rest : List ℕ) → Fit x → read (encode x ++ rest) ≡ Some (x, rest)

-- a value and the octets after it
abbrev pub answer : {A : Type 0} → A → List ℕ → Option (A × List ℕ)
answer x rest = Some (x, rest)

-- the first step of a reading, and what follows from the others
pub step : {A B P : Type 0} {encode : A → List ℕ} {Fit : A → Type 0} {read : Reader A} (part : Part encode Fit read) (octets : List ℕ) (f : A × List ℕ → Option B) (y : B)
    → IsBytes octets → (read octets >>= f) ≡ Some y
    → ((x : A) (rest : List ℕ) → octets ≡ encode x ++ rest → IsBytes rest → Fit x → f (x, rest) ≡ Some y → P) → P
step {A = A} {B = B} {P = P} {read = read} part octets f y bytes is go = by (read octets) refl is
  where
    by : (r : Option (A × List ℕ)) → read octets ≡ r → (r >>= f) ≡ Some y → P
    by None e h = absurd (cc h)
    by (Some x) e h = let t = part.takes octets x.0 x.1 bytes e in go x.0 x.1 t.0.is t.0.more t.1 h

pub test : {A B P : Type 0} (b : Bool) (x : A) (f : A → Option B) (y : B) → (value_if b x >>= f) ≡ Some y → (b ≡ true → f x ≡ Some y → P) → P
test true x f y is go = go refl is
test false x f y is go = absurd (cc is)

pub provided_is : {A P : Type 0} (b : Bool) (x y : A) → value_if b x ≡ Some y → (b ≡ true → x ≡ y → P) → P
provided_is {A} true x y is go = go refl (by (Some x) (Some y) is)
  where
    by : (a b : Option A) → a ≡ b → x ≡ y
    by a b e = cc
provided_is false x y is go = absurd (cc is)

pub some_is : {A : Type 0} (x y : A) → Some x ≡ Some y → x ≡ y
some_is {A} x y e = let e : (let s : Option A = Some x in s) ≡ Some y = e in cc

pub made : {A : Type 0} (encode : A → List ℕ) (Fit : A → Type 0) (octets after : List ℕ) (y x : A)
    (rest : List ℕ) → answer y after ≡ answer x rest → octets ≡ encode y ++ after → IsBytes after
    → Fit y → Takes octets (encode x) rest × Fit x
made {A} encode Fit octets after y x rest e is bytes fit =
    subst (λ (z : A × List ℕ). Takes octets (encode z.0) z.1 × Fit z.0) (some_is {A = A × List ℕ} (y, after) (x, rest) e) (record { is = is; more = bytes }, fit)

-- ---- all of the octets

pub whole_takes : {A : Type 0} {encode : A → List ℕ} {Fit : A → Type 0} {read : Reader A}
    (part : Part encode Fit read) (octets : List ℕ) (x : A) → IsBytes octets
    → whole (read octets) ≡ Some x → Fit x × (octets ≡ encode x)
whole_takes {A} {encode} {Fit} {read} part octets x bytes is =
    step part octets (λ x. value_if (eqb (length x.1) 0) x.0) x bytes is
    (λ y after first more fit e. provided_is (eqb (length after) 0) y x e
    (λ ended same.
    let nothing : after ≡ [] = nil_from_length after (eqb-true _ _ ended) in
    subst (λ (p : A). Fit p × (octets ≡ encode p)) same (fit, first ∙ ap (λ l. encode y ++ l) nothing ∙ append-nil (encode y))))

pub whole_again : {A : Type 0} {encode : A → List ℕ} {Fit : A → Type 0} {read : Reader A} (part : Part encode Fit read) (x : A) → Fit x → whole (read (encode x)) ≡ Some x
whole_again {A} {encode} {Fit} {read} part x fit =
    let e : read (encode x) ≡ Some (x, []) = ap read (sym (append-nil (encode x))) ∙ part.again x [] fit in
    rw e refl

-- no two values have one encoding
pub one : {A : Type 0} {encode : A → List ℕ} {Fit : A → Type 0} {read : Reader A} (part : Part encode Fit read) (x y : A) → Fit x → Fit y → encode x ≡ encode y → x ≡ y
one {read = read} part x y fit too is = some_is x y (sym (whole_again part x fit) ∙ ap (λ l. whole (read l)) is ∙ whole_again part y too)

-- what is read of all octets is encoded so
pub found : {A : Type 0} {encode : A → List ℕ} {Fit : A → Type 0} {read : Reader A}
    (part : Part encode Fit read) (octets : List ℕ) → IsBytes octets → (r : Option A)
    → r ≡ whole (read octets) → IfSome r (λ x. Fit x × (octets ≡ encode x))
found part octets bytes None is = tt
found part octets bytes (Some x) is = whole_takes part octets x bytes (sym is)

-- what all octets encode is read
pub only : {A : Type 0} {encode : A → List ℕ} {Fit : A → Type 0} {read : Reader A} (part : Part encode Fit read) (octets : List ℕ) (x : A) → Fit x → octets ≡ encode x → whole (read octets) ≡ Some x
only {read = read} part octets x fit is = ap (λ l. whole (read l)) is ∙ whole_again part x fit

-- what was read is the value that the octets encode
pub the_one : {A : Type 0} {encode : A → List ℕ} {Fit : A → Type 0} {read : Reader A}
    (part : Part encode Fit read) (octets : List ℕ) (x y : A) → whole (read octets) ≡ Some x → Fit y
    → octets ≡ encode y → x ≡ y
the_one part octets x y is fit encoded = some_is x y (sym is ∙ only part octets y fit encoded)

-- where nothing is read, they encode no value
pub no_one : {A : Type 0} {encode : A → List ℕ} {Fit : A → Type 0} {read : Reader A}
    (part : Part encode Fit read) (octets : List ℕ) (y : A) → whole (read octets) ≡ None → Fit y
    → octets ≡ encode y → ⊥
no_one {A} part octets y is fit encoded = absurd (by y (sym is ∙ only part octets y fit encoded))
  where
    by : (x : A) → None ≡ Some x → ⊥
    by x e = cc e
