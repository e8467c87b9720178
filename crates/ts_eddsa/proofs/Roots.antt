-- Square roots modulo a prime p that is 5 modulo 8, where p = 8 k + 5.
use Rattle.std.proofs.Common.{◌≡◌, ◌≢◌, ℕ, zero, suc, ◌+◌, ◌-◌, ◌*◌, ◌%◌, ◌^◌, ◌<◌, [], ◌∷◌, refl}
use Rattle.std.proofs.Common.{sym, ap, ◌∙◌, ◌⊎◌, inl, inr, arith}
use Rattle.std.proofs.Math.Nat.{mod-mod, mod-lt, mod-eq_of_lt, zero-mod, pow-zero, pow-suc}
use Rattle.std.proofs.Math.Nat.{pow-succ'}
use Rattle.std.proofs.lemmas.Bool.{cases_eq}
use Rattle.std.proofs.lemmas.Nat.{pow-add, mul-pow, pow-mod, mul-mod, mul-mod_second}
use Rattle.ts_ring.specs.Modular.{add, sub, mul, inverse, IsField}
use Rattle.ts_ring.specs.Expression.{var, num, plus, minus, times, square}
use Rattle.ts_ring.proofs.Ring.{ring}
use Rattle.ts_ring.proofs.Fields.{ring_eq, positive, mul-one, mul-one-one, mul-zero-second}
use Rattle.ts_ring.proofs.Fields.{product-nonzero, difference-nonzero}

abbrev sq : ℕ → ℕ → ℕ
sq p a = mul p a a

-- ---- powers
abbrev pw : ℕ → ℕ → ℕ → ℕ
pw p a k = a ^ k % p

pw-mul : (p a b k : ℕ) → pw p (mul p a b) k ≡ mul p (pw p a k) (pw p b k)
pw-mul p a b k =
    pow-mod (a * b) k p ∙ ap (λ z. z % p) (mul-pow a b k) ∙ mul-mod (a ^ k) (b ^ k) p

pw-add : (p a i j : ℕ) → pw p a (i + j) ≡ mul p (pw p a i) (pw p a j)
pw-add p a i j = ap (λ z. z % p) (pow-add a i j) ∙ mul-mod (a ^ i) (a ^ j) p

pw-sq : (p a k : ℕ) → pw p (sq p a) k ≡ pw p a (k + k)
pw-sq p a k = pw-mul p a a k ∙ sym (pw-add p a k k)

pow-first : (a : ℕ) → a ^ 1 ≡ a
pow-first a = pow-suc a 0 ∙ ap (λ z. z * a) (pow-zero a) ∙ (let e : 1 * a ≡ a = omega arith in e)

pw-two : (p a : ℕ) → pw p a 2 ≡ sq p a
pw-two p a = ap (λ z. z % p) (pow-suc a 1 ∙ ap (λ z. z * a) (pow-first a))

pw-four : (p a : ℕ) → pw p a 4 ≡ sq p (sq p a)
pw-four p a = pw-add p a 2 2 ∙ ap (sq p) (pw-two p a)

pw-eight : (p a : ℕ) → pw p a 8 ≡ sq p (sq p (sq p a))
pw-eight p a = pw-add p a 4 4 ∙ ap (sq p) (pw-four p a)

-- the same exponent, written otherwise
pw-at : (p a i j : ℕ) → i ≡ j → pw p a i ≡ pw p a j
pw-at p a i j e = ap (λ z. a ^ z % p) e

pw-one : (p k : ℕ) → pw p 1 k ≡ 1 % p
pw-one p zero = ap (λ z. z % p) (pow-zero 1)
pw-one p (suc k) =
    ap (λ z. z % p) (pow-suc 1 k ∙ (let e : 1 ^ k * 1 ≡ 1 ^ k = omega arith in e)) ∙ pw-one p k

one-small : (p : ℕ) → IsField p → 1 % p ≡ 1
one-small p f = let h = f.above in mod-eq_of_lt (let k : 1 < p = omega arith in k)

-- Fermat's theorem
fermat : (p n a : ℕ) → IsField p → p ≡ suc n → a % p ≢ 0 → pw p a n ≡ 1
unfolding inverse
fermat p n a f e nz =
    let h = f.above in
    let k = p - 2 in
    let w : n ≡ suc k = omega arith in
    pw-at p a n (suc k) w ∙ ap (λ v. v % p) (pow-succ' a k) ∙ sym (mul-mod_second a (a ^ k) p)
    ∙ f.inverts a nz

-- ---- square roots
-- a square has two roots at most
pub two_roots : (p a b : ℕ) → IsField p → a < p → b < p → mul p a a ≡ mul p b b
    → (a ≡ b) ⊎ (a ≡ sub p 0 b)
two_roots p a b f la lb e =
    elim (cases_eq a b) [
      | inl same ↦ inl same
      | inr other ↦
          elim (cases_eq a (sub p 0 b)) [
            | inl same ↦ inr same
            | inr neither ↦ absurd (
                let pos = positive p f in
                let ln : sub p 0 b < p = mod-lt (0 + (p - b % p)) pos in
                let one = difference-nonzero p b a f lb la (λ s. other (sym s)) in
                let two = difference-nonzero p (sub p 0 b) a f ln la (λ s. neither (sym s)) in
                product-nonzero p (sub p a b) (sub p a (sub p 0 b)) f one two
                (ap (λ z. z % p)
                (ring_eq p pos (a ∷ b ∷ [])
                (times (minus (var 0) (var 1)) (minus (var 0) (minus (num 0) (var 1))))
                (minus (square (var 0)) (square (var 1))) refl refl refl
                ∙ ap (λ z. sub p z (mul p b b)) e)
                ∙ ap (λ z. z % p)
                (ring_eq p pos (mul p b b ∷ []) (minus (var 0) (var 0)) (minus (num 0) (num 0))
                refl refl refl)
                ∙ ring p pos [] (minus (num 0) (num 0)) (num 0) refl ∙ zero-mod p))
          ]
    ]

abbrev pub third : ℕ → ℕ → ℕ
third p v = mul p v (mul p v v)

abbrev pub seventh : ℕ → ℕ → ℕ
seventh p v = mul p v (mul p (third p v) (third p v))

abbrev pub candidate_of : ℕ → ℕ → ℕ → ℕ → ℕ
candidate_of p k u v = mul p (mul p u (third p v)) (mul p u (seventh p v) ^ k % p)

-- the candidate is x to the 2 k + 2
candidate_is : (p k v x : ℕ) → IsField p → p ≡ 8 * k + 5 → v % p ≢ 0
    → candidate_of p k (mul p v (mul p x x)) v ≡ mul p (pw p x (k + k)) (sq p x)
candidate_is p k v x f e nz =
    let pos = positive p f in
    let u = mul p v (mul p x x) in
    let v8 = sq p (sq p (sq p v)) in
    let v4 = sq p (sq p v) in
    let n = (k + k + (k + k)) + (k + k + (k + k)) in
    let big = pw p v n in
    let base : mul p u (seventh p v) ≡ mul p v8 (sq p x) =
    ring_eq p pos (v ∷ x ∷ [])
    (times (times (var 0) (square (var 1)))
    (times (var 0) (square (times (var 0) (square (var 0))))))
    (times (square (square (square (var 0)))) (square (var 1))) refl refl refl in
    let power : pw p (mul p u (seventh p v)) k ≡ mul p big (pw p x (k + k)) =
    ap (λ z. pw p z k) base ∙ pw-mul p v8 (sq p x) k
    ∙ ap (λ z. mul p z (pw p (sq p x) k))
    (pw-sq p (sq p (sq p v)) k ∙ pw-sq p (sq p v) (k + k) ∙ pw-sq p v (k + k + (k + k)))
    ∙ ap (mul p big) (pw-sq p x k) in
    let whole : mul p big v4 ≡ 1 =
    ap (mul p big) (sym (pw-four p v)) ∙ sym (pw-add p v n 4)
    ∙ fermat p (n + 4) v f (omega arith) nz in
    let root = pw p x (k + k) in
    ap (mul p (mul p u (third p v))) power
    ∙ ring_eq p pos (v ∷ x ∷ big ∷ root ∷ [])
    (times (times (times (var 0) (square (var 1))) (times (var 0) (square (var 0))))
    (times (var 2) (var 3)))
    (times (times (var 2) (square (square (var 0)))) (times (var 3) (square (var 1))))
    refl refl refl
    ∙ ap (λ z. mul p z (mul p root (sq p x))) whole
    ∙ ring_eq p pos (root ∷ x ∷ []) (times (num 1) (times (var 0) (square (var 1))))
    (times (var 0) (square (var 1))) refl refl refl

-- x to the 4 k + 2 is 1 or -1
abbrev sign_of : ℕ → ℕ → ℕ → ℕ
sign_of p k x = mul p (sq p (pw p x (k + k))) (sq p x)

sign-square : (p k x : ℕ) → IsField p → p ≡ 8 * k + 5 → x % p ≢ 0 → sq p (sign_of p k x) ≡ 1
sign-square p k x f e nz =
    let pos = positive p f in
    let root = pw p x (k + k) in
    let n = (k + k + (k + k)) + (k + k + (k + k)) in
    let high : sq p (sq p root) ≡ pw p x n =
    ap (sq p) (sym (pw-add p x (k + k) (k + k)))
    ∙ sym (pw-add p x (k + k + (k + k)) (k + k + (k + k))) in
    ring_eq p pos (root ∷ x ∷ []) (square (times (square (var 0)) (square (var 1))))
    (times (square (square (var 0))) (square (square (var 1)))) refl refl refl
    ∙ ap (λ z. mul p z (sq p (sq p x))) high ∙ ap (mul p (pw p x n)) (sym (pw-four p x))
    ∙ sym (pw-add p x n 4) ∙ fermat p (n + 4) x f (omega arith) nz

sign-is : (p k x : ℕ) → IsField p → p ≡ 8 * k + 5 → x % p ≢ 0
    → (sign_of p k x ≡ 1) ⊎ (sign_of p k x ≡ sub p 0 1)
sign-is p k x f e nz =
    let h = f.above in
    let pos = positive p f in
    two_roots p (sign_of p k x) 1 f (mod-lt (sq p (pw p x (k + k)) * sq p x) pos) (omega arith)
    (sign-square p k x f e nz ∙ sym (mul-one-one p f))

-- where u / v is the square of x, the candidate is a root of u / v or of - u / v
pub candidate_square : (p k v x : ℕ) → IsField p → p ≡ 8 * k + 5 → v % p ≢ 0 → x < p
    → (let u = mul p v (mul p x x) in
    let c = candidate_of p k u v in
    (mul p v (mul p c c) ≡ u) ⊎ (mul p v (mul p c c) ≡ sub p 0 u))
candidate_square p k v x f e nz lx =
    let pos = positive p f in
    let u = mul p v (mul p x x) in
    let c = candidate_of p k u v in
    let root = pw p x (k + k) in
    let s = sign_of p k x in
    let turned : mul p v (mul p c c) ≡ mul p s u =
    ap (λ z. mul p v (mul p z z)) (candidate_is p k v x f e nz)
    ∙ ring_eq p pos (v ∷ x ∷ root ∷ [])
    (times (var 0) (square (times (var 2) (square (var 1)))))
    (times (times (square (var 2)) (square (var 1))) (times (var 0) (square (var 1))))
    refl refl refl in
    elim (cases_eq x 0) [
      | inl z ↦
          let none : u ≡ 0 = ap (λ t. mul p v (mul p t t)) z
          ∙ ap (mul p v) (mul-zero-second p 0) ∙ mul-zero-second p v in
          inl (turned ∙ ap (mul p s) none ∙ mul-zero-second p s ∙ sym none)
      | inr some ↦
          elim (sign-is p k x f e (λ z. some (sym (mod-eq_of_lt lx) ∙ z))) [
            | inl one ↦ inl (turned ∙ ap (λ z. mul p z u) one
                ∙ ring_eq p pos (v ∷ x ∷ [])
                (times (num 1) (times (var 0) (square (var 1)))) (times (var 0) (square (var 1)))
                refl refl refl)
            | inr other ↦ inr (turned ∙ ap (λ z. mul p z u) other
                ∙ ring_eq p pos (u ∷ []) (times (minus (num 0) (num 1)) (var 0))
                (minus (num 0) (var 0)) refl refl refl)
          ]
    ]

-- the second root: times a root of -1
pub turned_root : (p u v c i : ℕ) → IsField p → mul p i i ≡ sub p 0 1
    → u < p → mul p v (mul p c c) ≡ sub p 0 u → mul p v (mul p (mul p c i) (mul p c i)) ≡ u
turned_root p u v c i f ei lu e =
    let pos = positive p f in
    ring_eq p pos (v ∷ c ∷ i ∷ []) (times (var 0) (square (times (var 1) (var 2))))
    (times (times (var 0) (square (var 1))) (square (var 2))) refl refl refl
    ∙ ap (λ z. mul p z (mul p i i)) e ∙ ap (mul p (sub p 0 u)) ei
    ∙ ring_eq p pos (u ∷ []) (times (minus (num 0) (var 0)) (minus (num 0) (num 1)))
    (times (var 0) (num 1)) refl refl refl
    ∙ mul-one p u lu

-- ---- numbers that are no square
-- a to the 2 ^ n, by squaring n times
abbrev pub squared : ℕ → ℕ → ℕ → ℕ
squared p zero a = a % p
squared p (suc n) a = squared p n (mul p a a)

squared-is : (p n a : ℕ) → squared p n a ≡ pw p a (2 ^ n)
squared-is p zero a = ap (λ z. z % p) (sym (pow-first a)) ∙ pw-at p a 1 (2 ^ 0) refl
squared-is p (suc n) a =
    squared-is p n (mul p a a) ∙ pw-sq p a (2 ^ n)
    ∙ pw-at p a (2 ^ n + 2 ^ n) (2 ^ suc n) (omega (arith, pow-suc 2 n))

-- where d y^2 is -1, d to the 4 k + 2 is 1
coefficient : (p k d y : ℕ) → IsField p → p ≡ 8 * k + 5 → y % p ≢ 0
    → add p (mul p d (mul p y y)) 1 ≡ 0 → pw p d (4 * k + 2) ≡ 1
coefficient p k d y f e nz h =
    let pos = positive p f in
    let n = 4 * k + 2 in
    let m = 2 * k + 1 in
    let w = mul p d (mul p y y) in
    let ws : w ≡ sub p 0 1 =
    sym (mod-mod (d * mul p y y) p)
    ∙ sym (ring p pos (w ∷ []) (minus (plus (var 0) (num 1)) (num 1)) (var 0) refl)
    ∙ ap (λ z. sub p z 1 % p) h ∙ mod-mod (0 + (p - 1 % p)) p in
    let one : sq p w ≡ 1 =
    ap (sq p) ws ∙ ring_eq p pos [] (square (minus (num 0) (num 1))) (times (num 1) (num 1))
    refl refl refl ∙ mul-one-one p f in
    let even : pw p w n ≡ 1 =
    pw-at p w n (m + m) (omega arith) ∙ sym (pw-sq p w m) ∙ ap (λ z. pw p z m) one
    ∙ pw-one p m ∙ one-small p f in
    let last : pw p (mul p y y) n ≡ 1 =
    pw-sq p y n ∙ fermat p (n + n) y f (omega arith) nz in
    sym (mod-mod (d ^ n) p)
    ∙ sym (ap (λ z. z % p) (let z : pw p d n * 1 ≡ pw p d n = omega arith in z))
    ∙ ap (mul p (pw p d n)) (sym last) ∙ sym (pw-mul p d (mul p y y) n) ∙ even

-- d y^2 + 1 is not 0 where d to the 4 k + 2 is not 1, with 4 k + 12 = 2 ^ n
pub denominator : (p k n d y : ℕ) → IsField p → p ≡ 8 * k + 5 → 4 * k + 12 ≡ 2 ^ n → y < p
    → squared p n d ≢ d ^ 10 % p → add p (mul p d (mul p y y)) 1 % p ≢ 0
denominator p k n d y f e en ly ne z =
    let pos = positive p f in
    let v = add p (mul p d (mul p y y)) 1 in
    let h : v ≡ 0 = sym (mod-mod (mul p d (mul p y y) + 1) p) ∙ z in
    elim (cases_eq y 0) [
      | inl none ↦
          let above = f.above in
          let one : v ≡ 1 =
          ap (λ t. add p (mul p d (mul p t t)) 1) none
          ∙ ap (λ t. add p (mul p d t) 1) (mul-zero-second p 0)
          ∙ ap (λ t. add p t 1) (mul-zero-second p d) ∙ one-small p f in
          omega (arith, one, h)
      | inr some ↦
          let unit = coefficient p k d y f e (λ t. some (sym (mod-eq_of_lt ly) ∙ t)) h in
          ne (squared-is p n d ∙ pw-at p d (2 ^ n) ((4 * k + 2) + 10) (omega (arith, en))
          ∙ pw-add p d (4 * k + 2) 10 ∙ ap (λ t. mul p t (d ^ 10 % p)) unit
          ∙ ap (λ t. t % p) (let t : 1 * (d ^ 10 % p) ≡ d ^ 10 % p = omega arith in t)
          ∙ mod-mod (d ^ 10) p)
    ]

-- ---- signs
pub negative_is : (p x : ℕ) → x < p → x ≢ 0 → sub p 0 x ≡ p - x
negative_is p x l nz =
    let small : x % p ≡ x = mod-eq_of_lt l in
    let e : 0 + (p - x % p) ≡ p - x = omega (arith, small) in
    ap (λ t. t % p) e ∙ mod-eq_of_lt (let k : p - x < p = omega arith in k)

pub negative_zero : (p : ℕ) → 0 < p → sub p 0 0 ≡ 0
negative_zero p pos =
    sym (mod-mod (0 + (p - 0 % p)) p) ∙ ring p pos [] (minus (num 0) (num 0)) (num 0) refl
    ∙ zero-mod p
