-- Decoding finds the points of the curve, each from its encoding and from nothing else.
use Rattle.std.proofs.Common.{◌≡◌, ◌≢◌, ℕ, zero, suc, ◌+◌, ◌-◌, ◌*◌, ◌/◌, ◌%◌, ◌^◌, ◌<◌, Bool, true}
use Rattle.std.proofs.Common.{false, eqb, ltb, if◌then◌else◌, List, [], ◌∷◌, length, reverse}
use Rattle.std.proofs.Common.{get_or, Option, Some, None, refl, sym, ap, subst, ◌∙◌, ◌⊎◌, inl, inr}
use Rattle.std.proofs.Common.{lit<, arith}
use Rattle.std.specs.Int.{bytes_low_first}
use Rattle.std.specs.Int.Digits.{AllBelowBase}
use Rattle.std.proofs.Math.Nat.{mod-lt}
use Rattle.std.proofs.lemmas.Bool.{cases_eq, eqb-true, eqb-false, eq-eqb, ne_eqb, ltb-true, lt-ltb}
use Rattle.std.proofs.lemmas.List.{length-reverse}
use Rattle.ts_ring.specs.Modular.{add, sub, mul}
use Rattle.ts_ring.specs.Expression.{var, num, square}
use Rattle.ts_ring.specs.Expression.{plus as plus_e, minus as minus_e, times as times_e}
use Rattle.ts_ring.proofs.Fields.{ring_eq, cancel, mul-turned}
use Rattle.ts_prime.specs.Primes.{p25519}
use Rattle.ts_prime.proofs.P25519.{p25519-field}
use Rattle.ts_curve.proofs.Numbers.{number-lt}
use Rattle.ts_eddsa.specs.Field.{plus, minus, times, power, negative, d, root_of_minus_one}
use Rattle.ts_eddsa.specs.Octets.{little}
use Rattle.ts_eddsa.specs.Points.{Point, affine}
use Rattle.ts_eddsa.specs.Decode.{candidate, root_by, x_of, with_sign, option_then, point_at}
use Rattle.ts_eddsa.specs.Decode.{decode_number, decode}
use Rattle.ts_eddsa.specs.Encode.{IsOnCurve, encode}
use Rattle.ts_eddsa.proofs.Remainders.{reversed_below}
use Rattle.ts_eddsa.proofs.Encoded.{bytes-number, bytes-length, number-bytes}
use Rattle.ts_eddsa.proofs.Roots.{two_roots, third, seventh, candidate_of, candidate_square}
use Rattle.ts_eddsa.proofs.Roots.{turned_root, squared, denominator, negative_is, negative_zero}

positive : 0 < p25519
positive = lit< tt

-- ---- the equation of the curve, solved for x^2
abbrev numerator : ℕ → ℕ → ℕ
numerator p y = sub p (mul p y y) 1

abbrev divisor : ℕ → ℕ → ℕ → ℕ
divisor p e y = add p (mul p e (mul p y y)) 1

abbrev left_side : ℕ → ℕ → ℕ → ℕ
left_side p x y = add p (sub p 0 (mul p x x)) (mul p y y)

abbrev right_side : ℕ → ℕ → ℕ → ℕ → ℕ
right_side p e x y = add p 1 (mul p e (mul p (mul p x x) (mul p y y)))

solved : (p e x y : ℕ) → 0 < p → left_side p x y ≡ right_side p e x y
    → mul p (divisor p e y) (mul p x x) ≡ numerator p y
solved p e x y pos h =
    ring_eq p pos (x ∷ y ∷ e ∷ [])
    (times_e (plus_e (times_e (var 2) (square (var 1))) (num 1)) (square (var 0)))
    (minus_e (plus_e
    (plus_e (num 1) (times_e (var 2) (times_e (square (var 0)) (square (var 1)))))
    (square (var 0))) (num 1)) refl refl refl
    ∙ ap (λ t. sub p (add p t (mul p x x)) 1) (sym h)
    ∙ ring_eq p pos (x ∷ y ∷ [])
    (minus_e (plus_e (plus_e (minus_e (num 0) (square (var 0))) (square (var 1)))
    (square (var 0))) (num 1))
    (minus_e (square (var 1)) (num 1)) refl refl refl

on_curve : (p e x y : ℕ) → 0 < p → mul p (divisor p e y) (mul p x x) ≡ numerator p y
    → left_side p x y ≡ right_side p e x y
on_curve p e x y pos h =
    ring_eq p pos (x ∷ y ∷ [])
    (plus_e (minus_e (num 0) (square (var 0))) (square (var 1)))
    (plus_e (minus_e (minus_e (square (var 1)) (num 1)) (square (var 0))) (num 1)) refl refl refl
    ∙ ap (λ t. add p (sub p t (mul p x x)) 1) (sym h)
    ∙ ring_eq p pos (x ∷ y ∷ e ∷ [])
    (plus_e (minus_e (times_e (plus_e (times_e (var 2) (square (var 1))) (num 1))
    (square (var 0))) (square (var 0))) (num 1))
    (plus_e (num 1) (times_e (var 2) (times_e (square (var 0)) (square (var 1))))) refl refl refl

-- ---- what choices lead to
some-equal : {A : Type 0} (a b : A) → Some a ≡ Some b → a ≡ b
some-equal {A = A} a b e = ap (λ o. elim o as (λ v. A) [ Some c ↦ c | None ↦ a ]) e

if_some : (t : Bool) (o : Option Point) (q : Point) → (if t then o else None) ≡ Some q
    → (t ≡ true) × (o ≡ Some q)
if_some true o q h = (refl, h)
if_some false o q h = absurd cc

then_some : (o : Option ℕ) (f : ℕ → Option Point) (q : Point) → option_then o f ≡ Some q
    → (a : ℕ) × (o ≡ Some a) × (f a ≡ Some q)
then_some None f q h = absurd cc
then_some (Some a) f q h = (a, refl, h)

abbrev first_of : Bool → Bool → ℕ → ℕ → Option ℕ
first_of a b x y = if a then Some x else (if b then Some y else None)

first_some : (a b : Bool) (x y r : ℕ) → first_of a b x y ≡ Some r
    → ((a ≡ true) × (x ≡ r)) ⊎ ((b ≡ true) × (y ≡ r))
first_some true b x y r h = inl (refl, some-equal x r h)
first_some false true x y r h = inr (refl, some-equal y r h)
first_some false false x y r h = absurd cc

some_first : (a b : Bool) (x y : ℕ) → (a ≡ true) ⊎ (b ≡ true)
    → (r : ℕ) × (first_of a b x y ≡ Some r)
some_first true b x y h = (x, refl)
some_first false true x y h = (y, refl)
some_first false false x y (inl h) = absurd cc
some_first false false x y (inr h) = absurd cc

abbrev signed : Bool → Bool → Bool → ℕ → ℕ → Option ℕ
signed a b c x y = if a then (if b then Some x else None) else Some (if c then x else y)

signed_some : (a b c : Bool) (x y r : ℕ) → signed a b c x y ≡ Some r
    → ((a ≡ true) × (b ≡ true) × (x ≡ r)) ⊎ ((c ≡ true) × (x ≡ r))
    ⊎ ((a ≡ false) × (c ≡ false) × (y ≡ r))
signed_some true true c x y r h = inl (refl, refl, some-equal x r h)
signed_some true false c x y r h = absurd cc
signed_some false b true x y r h = inr (inl (refl, some-equal x r h))
signed_some false b false x y r h = inr (inr (refl, refl, some-equal y r h))

-- ---- the root
abbrev k : ℕ
k = (p25519 - 5) / 8

abbrev u_of : ℕ → ℕ
u_of y = minus (times y y) 1

abbrev v_of : ℕ → ℕ
v_of y = plus (times d (times y y)) 1

power_is : (a j : ℕ) → power a j ≡ a ^ j % p25519
unfolding power
power_is a j = refl

candidate_is : (u v : ℕ) → candidate u v ≡ candidate_of p25519 k u v
candidate_is u v =
    ap (times (times u (third p25519 v))) (power_is (times u (seventh p25519 v)) k)

root_found : (u v c r : ℕ) → u < p25519 → c < p25519 → root_by u v c ≡ Some r
    → (r < p25519) × (times v (times r r) ≡ u)
unfolding root_by
root_found u v c r lu lc h =
    let check = times v (times c c) in
    elim (first_some (eqb check u) (eqb check (negative u)) c (times c root_of_minus_one) r h) [
      | inl a ↦
          let e = eqb-true check u a.0 in (
            subst (λ t. t < p25519) a.1 lc,
            subst (λ t. times v (times t t) ≡ u) a.1 e,
          )
      | inr b ↦
          let e = eqb-true check (negative u) b.0 in (
            subst (λ t. t < p25519) b.1 (mod-lt (c * root_of_minus_one) positive),
            subst (λ t. times v (times t t) ≡ u) b.1
                (turned_root p25519 u v c root_of_minus_one p25519-field refl lu e),
          )
    ]

some_root : (u v c : ℕ) → (times v (times c c) ≡ u) ⊎ (times v (times c c) ≡ negative u)
    → (r : ℕ) × (root_by u v c ≡ Some r)
unfolding root_by
some_root u v c h =
    let check = times v (times c c) in
    some_first (eqb check u) (eqb check (negative u)) c (times c root_of_minus_one) (elim h [
      | inl e ↦ inl (eq-eqb check u e)
      | inr e ↦ inr (eq-eqb check (negative u) e)
    ])

x_found : (y r : ℕ) → x_of y ≡ Some r → (r < p25519) × (times (v_of y) (times r r) ≡ u_of y)
unfolding x_of
x_found y r h =
    let u = u_of y in
    let v = v_of y in
    root_found u v (candidate u v) r (mod-lt (times y y + (p25519 - 1 % p25519)) positive)
    (mod-lt (times u (third p25519 v) * power (times u (seventh p25519 v)) k) positive) h

divisor_nonzero : (y : ℕ) → y < p25519 → v_of y % p25519 ≢ 0
divisor_nonzero y l =
    denominator p25519 k 254 d y p25519-field refl refl l
    (eqb-false (squared p25519 254 d) (d ^ 10 % p25519) refl)

some_x : (x y : ℕ) → IsOnCurve x y → (r : ℕ) × (x_of y ≡ Some r)
unfolding x_of
some_x x y o =
    let v = v_of y in
    let u = u_of y in
    let e : times v (times x x) ≡ u = solved p25519 d x y positive o.equation in
    let s : (times v (times (candidate_of p25519 k u v) (candidate_of p25519 k u v)) ≡ u)
    ⊎ (times v (times (candidate_of p25519 k u v) (candidate_of p25519 k u v)) ≡ negative u) =
    subst (λ w. (times v (times (candidate_of p25519 k w v) (candidate_of p25519 k w v)) ≡ w)
    ⊎ (times v (times (candidate_of p25519 k w v) (candidate_of p25519 k w v)) ≡ negative w)) e
    (candidate_square p25519 k v x p25519-field refl (divisor_nonzero y o.y_below) o.x_below) in
    some_root u v (candidate u v)
    (subst (λ c. (times v (times c c) ≡ u) ⊎ (times v (times c c) ≡ negative u))
    (sym (candidate_is u v)) s)

-- ---- the sign
negative_below : (x : ℕ) → negative x < p25519
negative_below x = mod-lt (0 + (p25519 - x % p25519)) positive

negative_square : (x : ℕ) → times (negative x) (negative x) ≡ times x x
negative_square x =
    ring_eq p25519 positive (x ∷ []) (square (minus_e (num 0) (var 0))) (square (var 0))
    refl refl refl

other_sign : (p m x : ℕ) → p ≡ 2 * m + 1 → x < p → x % 2 ≢ (p - x) % 2
other_sign p m x e l h = omega arith

odd_prime : (x : ℕ) → x < p25519 → x ≢ 0 → x % 2 ≢ negative x % 2
odd_prime x l nz h =
    other_sign p25519 (p25519 / 2) x refl l (h ∙ ap (λ t. t % 2) (negative_is p25519 x l nz))

sign_found : (s r x : ℕ) → s < 2 → r < p25519 → with_sign s r ≡ Some x
    → (x < p25519) × (times x x ≡ times r r) × (x % 2 ≡ s)
unfolding with_sign
sign_found s r x ls lr h =
    elim (signed_some (eqb r 0) (eqb s 0) (eqb (r % 2) s) r (negative r) x h) [
      | inl a ↦
          let zr = eqb-true r 0 a.0 in
          let zs = eqb-true s 0 a.1 in (
            subst (λ t. t < p25519) a.2 lr,
            ap (λ t. times t t) (sym a.2),
            ap (λ t. t % 2) (sym a.2 ∙ zr) ∙ sym zs,
          )
      | inr (inl b) ↦ (
        subst (λ t. t < p25519) b.1 lr,
        ap (λ t. times t t) (sym b.1),
        ap (λ t. t % 2) (sym b.1) ∙ eqb-true (r % 2) s b.0,
      )
      | inr (inr c) ↦
          let nz = eqb-false r 0 c.0 in
          let ns = eqb-false (r % 2) s c.1 in
          let other = odd_prime r lr nz in (
            subst (λ t. t < p25519) c.2 (negative_below r),
            ap (λ t. times t t) (sym c.2) ∙ negative_square r,
            ap (λ t. t % 2) (sym c.2) ∙ last (r % 2) (negative r % 2) s (mod-lt r (lit< tt))
                (mod-lt (negative r) (lit< tt)) ls other ns,
          )
    ]
  where
    last : (a b s : ℕ) → a < 2 → b < 2 → s < 2 → a ≢ b → a ≢ s → b ≡ s
    last a b s la lb ls n m = omega (arith, la, lb, ls, n, m)

same_signed : (x : ℕ) → with_sign (x % 2) x ≡ Some x
unfolding with_sign
same_signed x = elim (cases_eq x 0) [
  | inl z ↦ rw z refl
  | inr nz ↦ rw (ne_eqb x 0 nz, eq-eqb (x % 2) (x % 2) refl) refl
]

negative_signed : (x : ℕ) → x < p25519 → x ≢ 0 → with_sign (x % 2) (negative x) ≡ Some x
unfolding with_sign
negative_signed x l nz =
    let e = negative_is p25519 x l nz in
    let n : negative x ≢ 0 = λ z. omega (arith, e, z, l) in
    let back : negative (negative x) ≡ x =
    negative_is p25519 (negative x) (negative_below x) n
    ∙ (let w : p25519 - negative x ≡ x = omega (arith, e, l) in w) in
    rw (
      ne_eqb (negative x) 0 n,
      ne_eqb (negative x % 2) (x % 2) (λ h. odd_prime x l nz (sym h)),
    ) (ap Some back)

sign_taken : (x r : ℕ) → x < p25519 → r < p25519 → times r r ≡ times x x
    → with_sign (x % 2) r ≡ Some x
sign_taken x r lx lr e =
    elim (two_roots p25519 r x p25519-field lr lx e) [
      | inl same ↦ ap (with_sign (x % 2)) same ∙ same_signed x
      | inr other ↦
          elim (cases_eq x 0) [
            | inl z ↦
                let w : r ≡ x = other ∙ ap negative z ∙ negative_zero p25519 positive ∙ sym z in
                ap (with_sign (x % 2)) w ∙ same_signed x
            | inr nz ↦ ap (with_sign (x % 2)) other ∙ negative_signed x lx nz
          ]
    ]

-- ---- the point
point_found : (s y : ℕ) (q : Point) → s < 2 → y < p25519 → point_at s y ≡ Some q
    → (x : ℕ) × IsOnCurve x y × (x % 2 ≡ s) × (q ≡ affine x y)
point_found s y q ls ly h =
    let a = then_some (x_of y) (λ root. option_then (with_sign s root) (λ x. Some (affine x y))) q h
    in
    let b = then_some (with_sign s a.0) (λ x. Some (affine x y)) q a.2 in
    let root = x_found y a.0 a.1 in
    let x = b.0 in
    let t = sign_found s a.0 x ls root.0 b.1 in (
      x,
      record {
        x_below = t.0;
        y_below = ly;
        equation = on_curve p25519 d x y positive (ap (times (v_of y)) t.1 ∙ root.1);
      },
      t.2,
      sym (some-equal (affine x y) q b.2),
    )

point_taken : (x y : ℕ) → IsOnCurve x y → point_at (x % 2) y ≡ Some (affine x y)
point_taken x y o =
    let r = some_x x y o in
    let root = x_found y r.0 r.1 in
    let e : times (v_of y) (times r.0 r.0) ≡ times (v_of y) (times x x) =
    root.1 ∙ sym (solved p25519 d x y positive o.equation) in
    let same : times r.0 r.0 ≡ times x x =
    cancel p25519 (times r.0 r.0) (times x x) (v_of y) p25519-field
    (mod-lt (r.0 * r.0) positive) (mod-lt (x * x) positive) (divisor_nonzero y o.y_below)
    (mul-turned p25519 (times r.0 r.0) (v_of y) ∙ e ∙ mul-turned p25519 (v_of y) (times x x)) in
    ap (λ t. option_then t
    (λ root. option_then (with_sign (x % 2) root) (λ z. Some (affine z y)))) r.1
    ∙ ap (λ t. option_then t (λ z. Some (affine z y))) (sign_taken x r.0 o.x_below root.0 same)

-- ---- the octets
at_each : (octets : List ℕ) → AllBelowBase 256 octets → (i : ℕ) → get_or octets i 0 < 256
at_each [] h i = lit< tt
at_each (x ∷ xs) h zero = h.0
at_each (x ∷ xs) h (suc i) = at_each xs h.1 i

little-below : (octets : List ℕ) → length octets ≡ 32 → AllBelowBase 256 octets
    → little octets < 2 ^ 256
unfolding little
little-below octets long each =
    number-lt (reverse octets) 256 (omega (arith, length-reverse octets, long))
    (reversed_below octets (at_each octets each))

-- octets that decode encode a point of the curve, which they decode to
pub found : (octets : List ℕ) (q : Point) → AllBelowBase 256 octets → decode octets ≡ Some q
    → (x y : ℕ) × IsOnCurve x y × (octets ≡ encode x y) × (q ≡ affine x y)
unfolding decode decode_number
found octets q each h =
    let n = little octets in
    let y = n % 2 ^ 255 in
    let s = n / 2 ^ 255 in
    let a = if_some (eqb (length octets) 32) (decode_number n) q h in
    let long = eqb-true (length octets) 32 a.0 in
    let b = if_some (ltb y p25519) (point_at s y) q a.1 in
    let l = little-below octets long each in
    let ls : s < 2 = omega (arith, l) in
    let t = point_found s y q ls (ltb-true y p25519 b.0) b.1 in
    let w : n ≡ y + 2 ^ 255 * s = omega arith in (
      t.0,
      y,
      t.1,
      number-bytes 32 octets long each
          ∙ ap (bytes_low_first 0 32) (w ∙ ap (λ v. y + 2 ^ 255 * v) (sym t.2)),
      t.3,
    )

number_taken : (n x y : ℕ) → n ≡ y + 2 ^ 255 * (x % 2) → IsOnCurve x y
    → decode_number n ≡ Some (affine x y)
unfolding decode_number
number_taken n x y e o =
    let l : y < 2 ^ 255 = (let m = o.y_below in omega (arith, m)) in
    let low : n % 2 ^ 255 ≡ y = omega (arith, e, l) in
    let high : n / 2 ^ 255 ≡ x % 2 = omega (arith, e, l) in
    rw (low, high, lt-ltb y p25519 o.y_below) (point_taken x y o)

octets_taken : (octets : List ℕ) (x y : ℕ) → length octets ≡ 32
    → little octets ≡ y + 2 ^ 255 * (x % 2) → IsOnCurve x y → decode octets ≡ Some (affine x y)
unfolding decode
octets_taken octets x y long e o =
    rw (eq-eqb (length octets) 32 long) (number_taken (little octets) x y e o)

-- the encoding of a point of the curve decodes to it
pub only : (x y : ℕ) → IsOnCurve x y → decode (encode x y) ≡ Some (affine x y)
only x y o =
    let n = y + 2 ^ 255 * (x % 2) in
    let below : n < 256 ^ 32 = (let m = o.y_below in omega (arith, m)) in
    octets_taken (encode x y) x y (bytes-length 32 n) (bytes-number 32 n below) o
