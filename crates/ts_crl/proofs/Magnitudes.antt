-- INTEGERs that are not negative, in their shortest form (X.690 8.3): the greater has more octets, or as many that come later in
-- the order of lists.
use Rattle.std.proofs.Common.{◌≡◌, ◌≢◌, ℕ, zero, suc, ◌+◌, ◌*◌, ◌^◌, ◌<◌, ◌≤◌, Bool, true, false, not, ◌||◌, cond, ltb, eqb, Some, inl, inr, List, [], ◌∷◌, length, refl, sym, ap, ◌∙◌, arith, pos}
use Rattle.std.specs.Prelude.{int_lt}
use Rattle.std.proofs.lemmas.Bool.{ltb-false, lt-ltb, le-ltb, cases_lt}
use Rattle.std.proofs.lemmas.Bool.Decides.{nat_tests}
use Rattle.std.proofs.lemmas.Cmp.{same_from_slice_cmp_tested}
use Rattle.std.proofs.Math.Nat.{mul-le-mul_right, pow-succ', pow-le-pow_right}
use Rattle.std.specs.Ordering.{is_lt, is_some_and, nat_cmp}
use Rattle.std.specs.Cmp.Lexicographic.{slice_partial_cmp}
use Rattle.ts_der.specs.Octets.{AreOctets}
use Rattle.ts_der.specs.Element.{number}
use Rattle.ts_der.specs.Integer.{is_shortest, is_negative, twos_complement}
use Rattle.ts_der.proofs.Integers.{number-bound, number-cons}

-- ---- as many octets

-- whether octets come before others
abbrev comes_before : List ℕ → List ℕ → Bool
comes_before [] [] = false
comes_before [] (y ∷ ys) = true
comes_before (x ∷ xs) [] = false
comes_before (x ∷ xs) (y ∷ ys) = cond (eqb x y) (comes_before xs ys) (ltb x y)

is_before : (xs ys : List ℕ) (r : Bool) → r ≡ is_some_and is_lt (slice_partial_cmp (λ x y. Some (nat_cmp x y)) xs ys) → r ≡ comes_before xs ys
is_before = same_from_slice_cmp_tested nat_cmp is_lt comes_before refl (λ _ _. refl) (λ _ _. refl) (λ x y xs ys o h. grind (arith, nat_tests))

-- the first octet decides, and if it is the same the others do
first_decides : (x y n m p : ℕ) (b : Bool) → n < p → m < p → b ≡ ltb n m → cond (eqb x y) b (ltb x y) ≡ ltb (x * p + n) (y * p + m)
first_decides x y n m p b h k e = elim (cases_lt x y) [
  | inl lt ↦ lesser lt (mul-le-mul_right p lt)
  | inr le ↦ elim (cases_lt y x) [ inl gt ↦ greater gt (mul-le-mul_right p gt) | inr ge ↦ equal (omega arith) ]
]
  where
    lesser : x < y → suc x * p ≤ y * p → cond (eqb x y) b (ltb x y) ≡ ltb (x * p + n) (y * p + m)
    lesser lt more =
        let sum : x * p + n < y * p + m = omega arith in
        let yes : ltb (x * p + n) (y * p + m) ≡ true = lt-ltb _ _ sum in
        let no : ltb x y ≡ true = lt-ltb x y lt in
        grind (arith, nat_tests)

    greater : y < x → suc y * p ≤ x * p → cond (eqb x y) b (ltb x y) ≡ ltb (x * p + n) (y * p + m)
    greater gt more =
        let sum : y * p + m < x * p + n = omega arith in
        let yes : ltb (x * p + n) (y * p + m) ≡ false = le-ltb _ _ (omega arith) in
        grind (arith, nat_tests)

    equal : x ≡ y → cond (eqb x y) b (ltb x y) ≡ ltb (x * p + n) (y * p + m)
    equal same =
        let product : x * p ≡ y * p = ap (λ (z : ℕ). z * p) same in
        elim (cases_lt n m) [
          | inl lt ↦
              let sum : x * p + n < y * p + m = omega (arith, product, lt) in
              let yes : ltb (x * p + n) (y * p + m) ≡ true = lt-ltb _ _ sum in
              let less : ltb n m ≡ true = lt-ltb n m lt in
              grind (arith, nat_tests)
          | inr le ↦
              let no : ltb (x * p + n) (y * p + m) ≡ false = le-ltb _ _ (omega (arith, product, le)) in
              let more : ltb n m ≡ false = le-ltb n m le in
              grind (arith, nat_tests)
        ]

none : false ≡ ltb (number []) (number [])
unfolding number
none = refl

of_one_length : (xs ys : List ℕ) → AreOctets xs → AreOctets ys → length xs ≡ length ys → comes_before xs ys ≡ ltb (number xs) (number ys)
of_one_length [] [] f g e = none
of_one_length [] (y ∷ ys) f g e = absurd (omega arith)
of_one_length (x ∷ xs) [] f g e = absurd (omega arith)
of_one_length (x ∷ xs) (y ∷ ys) f g e =
    let same : length xs ≡ length ys = omega arith in
    let power : 256 ^ length xs ≡ 256 ^ length ys = ap (λ (n : ℕ). 256 ^ n) same in
    let below : number ys < 256 ^ length xs = omega (arith, power, number-bound ys (λ i. g (suc i))) in
    let rest = of_one_length xs ys (λ i. f (suc i)) (λ i. g (suc i)) same in
    let first = number-cons x xs in
    let second : number (y ∷ ys) ≡ y * 256 ^ length xs + number ys = number-cons y ys ∙ ap (λ (q : ℕ). y * q + number ys) (sym power) in
    rw (first, second) (first_decides x y (number xs) (number ys) (256 ^ length xs) (comes_before xs ys) (number-bound xs (λ i. f (suc i))) below rest)

-- ---- more octets

small : (a : ℕ) (octets : List ℕ) → AreOctets (a ∷ octets) → is_negative (a ∷ octets) ≡ false → number (a ∷ octets) < 128 * 256 ^ length octets
small a octets fits e =
    let first : a ≤ 127 = ltb-false 127 a e in
    let rest : number octets < 256 ^ length octets = number-bound octets (λ i. fits (suc i)) in
    let most : suc a * 256 ^ length octets ≤ 128 * 256 ^ length octets = mul-le-mul_right (256 ^ length octets) (omega arith) in
    omega (arith, rest, most, number-cons a octets)

-- two octets or more do not begin with nine bits 0
second_octet : (b : ℕ) (octets : List ℕ) → is_shortest (0 ∷ b ∷ octets) ≡ true → 128 ≤ b
second_octet b octets e = ltb-false b 128 (by_test (ltb b 128) (eqb b 255) e)
  where
    by_test : (x y : Bool) → not (x || false) ≡ true → x ≡ false
    by_test true y h = absurd cc
    by_test false y h = refl

large : (a b : ℕ) (octets : List ℕ) → is_shortest (a ∷ b ∷ octets) ≡ true → 128 * 256 ^ length octets ≤ number (a ∷ b ∷ octets)
large zero b octets short =
    let p = 256 ^ length octets in
    let most : 128 * p ≤ b * p = mul-le-mul_right p (second_octet b octets short) in
    omega (arith, most, number-cons zero (b ∷ octets), number-cons b octets)
large (suc a) b octets short =
    let p = 256 ^ length octets in
    let q : 256 ^ suc (length octets) ≡ 256 * p = pow-succ' 256 (length octets) in
    let most : 1 * 256 ^ suc (length octets) ≤ suc a * 256 ^ suc (length octets) = mul-le-mul_right (256 ^ suc (length octets)) (omega arith) in
    omega (arith, q, most, number-cons (suc a) (b ∷ octets))

more_octets : (xs ys : List ℕ) → AreOctets xs → is_shortest xs ≡ true → is_negative xs ≡ false → is_shortest ys ≡ true → length xs < length ys → number xs < number ys
more_octets [] ys f s e t lt = absurd cc
more_octets (a ∷ xs) [] f s e t lt = absurd (omega arith)
more_octets (a ∷ xs) (b ∷ []) f s e t lt = absurd (omega arith)
more_octets (a ∷ xs) (b ∷ c ∷ ys) f s e t lt =
    let fewer : length xs ≤ length ys = omega arith in
    let power : 256 ^ length xs ≤ 256 ^ length ys = pow-le-pow_right (let h : 0 < 256 = omega arith in h) fewer in
    omega (arith, small a xs f e, large b c ys t, power)

-- ---- by their values

natural : (octets : List ℕ) → is_negative octets ≡ false → twos_complement octets ≡ pos (number octets)
unfolding twos_complement
natural octets e = rw e refl

by_numbers : (xs ys : List ℕ) → is_negative xs ≡ false → is_negative ys ≡ false → ltb (number xs) (number ys) ≡ int_lt (twos_complement xs) (twos_complement ys)
by_numbers xs ys e h = rw (natural xs e, natural ys h) refl

-- as many octets
pub equally_long : (xs ys : List ℕ) (r : Bool) → AreOctets xs → AreOctets ys → is_negative xs ≡ false → is_negative ys ≡ false → length xs ≡ length ys
    → r ≡ is_some_and is_lt (slice_partial_cmp (λ x y. Some (nat_cmp x y)) xs ys) → r ≡ int_lt (twos_complement xs) (twos_complement ys)
equally_long xs ys r f g e h same is = is_before xs ys r is ∙ of_one_length xs ys f g same ∙ by_numbers xs ys e h

-- more octets
pub longer : (xs ys : List ℕ) → AreOctets xs → AreOctets ys → is_shortest xs ≡ true → is_negative xs ≡ false → is_shortest ys ≡ true → is_negative ys ≡ false
    → length xs ≢ length ys → ltb (length xs) (length ys) ≡ int_lt (twos_complement xs) (twos_complement ys)
longer xs ys f g s e t h other = elim (cases_lt (length xs) (length ys)) [
  | inl lt ↦ lt-ltb _ _ lt ∙ sym (lt-ltb _ _ (more_octets xs ys f s e t lt)) ∙ by_numbers xs ys e h
  | inr le ↦
      let gt : length ys < length xs = omega (arith, le, other) in
      let more : number ys ≤ number xs = omega (arith, more_octets ys xs g t h s gt) in
      le-ltb _ _ le ∙ sym (le-ltb _ _ more) ∙ by_numbers xs ys e h
]
