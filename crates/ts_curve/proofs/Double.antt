-- The double of a point in Jacobian coordinates is the point's double.
use Rattle.std.proofs.Common.{◌≡◌, ◌≢◌, ℕ, ◌+◌, ◌-◌, ◌%◌, ◌<◌, [], ◌∷◌, Some, None, refl, sym, ap, subst, ◌∙◌, ⊎_elim, arith}
use Rattle.std.proofs.Math.Nat.{mod-eq_of_lt, zero-mod}
use Rattle.std.proofs.lemmas.Bool.{ne_eqb}
use Rattle.std.proofs.lemmas.Bool.Decides.{eqb_tells}
use Rattle.ts_ring.specs.Expression.{Expression, var, num, plus, minus, times, value, square, cube, twice}
use Rattle.ts_ring.specs.Modular.{add, sub, mul, inverse, IsField}
use Rattle.ts_ring.proofs.Fields.{ring_eq, positive, quotient-times, product-nonzero, below, nonzero, mul-zero-first, mul-zero-second}
use Rattle.ts_curve.specs.Points.{Point, third, double}
use Rattle.ts_curve.specs.Jacobian.{Triple, jacobian, jacobian_double}
use Rattle.ts_curve.proofs.Triples.{view_none, view_some, back_square, back_cube}

abbrev fourth : Expression → Expression
fourth e = square (square e)

-- the coordinates of a triple for (x, y)
abbrev X : Expression
X = times (var 0) (square (var 2))

abbrev Y : Expression
Y = times (var 1) (cube (var 2))

abbrev M : Expression
M = times (minus X (square (var 2))) (plus X (square (var 2)))

abbrev Alpha : Expression
Alpha = plus (twice M) M

abbrev Beta : Expression
Beta = times X (square Y)

abbrev Z3 : Expression
Z3 = twice (times Y (var 2))

-- the same with s * z3 for alpha
abbrev X3 : Expression
X3 = minus (square (times (var 3) Z3)) (twice (twice (twice Beta)))

abbrev Y3 : Expression
Y3 = minus (times (times (var 3) Z3) (minus (twice (twice Beta)) X3)) (twice (twice (twice (square
    (square Y)))))

-- the third point
abbrev X' : Expression
X' = minus (minus (square (var 3)) (var 0)) (var 0)

abbrev Y' : Expression
Y' = minus (times (var 3) (minus (var 0) X')) (var 1)

abbrev three : Expression
three = minus (num 0) (num 3)

-- the slope's equation
alpha_is : (p x y z s : ℕ) → IsField p → mul p s (mul p 2 y) ≡ add p (mul p 3 (mul p x x))
    (sub p 0 3)
    → value p (x ∷ y ∷ z ∷ s ∷ []) Alpha ≡ value p (x ∷ y ∷ z ∷ s ∷ []) (times (var 3) Z3)
alpha_is p x y z s f h =
    let env = x ∷ y ∷ z ∷ s ∷ [] in
    let pos = positive p f in
    ring_eq p pos env Alpha (times (plus (times (num 3) (square (var 0))) three) (fourth
    (var 2))) refl refl refl
    ∙ ap (λ k. mul p k (mul p (mul p z z) (mul p z z))) (sym h)
    ∙ ring_eq p pos env (times (times (var 3) (times (num 2) (var 1))) (fourth (var 2))) (times
    (var 3) Z3) refl refl refl

x_is : (p x y z s : ℕ) → IsField p → value p (x ∷ y ∷ z ∷ s ∷ []) X3 ≡ value p (x ∷ y ∷ z ∷ s ∷ [])
    (times X' (square Z3))
x_is p x y z s f = ring_eq p (positive p f) (x ∷ y ∷ z ∷ s ∷ []) X3 (times X'
    (square Z3)) refl refl refl

y_is : (p x y z s : ℕ) → IsField p → value p (x ∷ y ∷ z ∷ s ∷ []) Y3 ≡ value p (x ∷ y ∷ z ∷ s ∷ [])
    (times Y' (cube Z3))
y_is p x y z s f = ring_eq p (positive p f) (x ∷ y ∷ z ∷ s ∷ []) Y3 (times Y'
    (cube Z3)) refl refl refl

-- the code's triple, with s * z3 for alpha
run : (p x y z s : ℕ) → IsField p → mul p s (mul p 2 y) ≡ add p (mul p 3 (mul p x x)) (sub p 0 3)
    → let env = x ∷ y ∷ z ∷ s ∷ [] in jacobian_double p
    (value p env X, value p env Y, z) ≡ (value p env X3, value p env Y3, value p env Z3)
unfolding jacobian_double
run p x y z s f h =
    let env = x ∷ y ∷ z ∷ s ∷ [] in
    ap (λ k. let u = sub p (mul p k k) (value p env (twice (twice (twice Beta)))) in
    let t : Triple = (
      u,
      sub p (mul p k (sub p (value p env (twice (twice Beta))) u)) (value p env
          (twice (twice (twice (square (square Y)))))),
      value p env Z3,
    ) in t)
    (alpha_is p x y z s f h)

two_nonzero : (p : ℕ) → IsField p → 2 % p ≢ 0
two_nonzero p f e =
    let h = f.above in let l : 2 < p = omega arith in
    let g : 2 ≡ 0 = sym (let m : 2 % p ≡ 2 = mod-eq_of_lt l in m) ∙ e in absurd (omega (arith, g))

z_is : (p x y z s : ℕ) → IsField p
    → value p (x ∷ y ∷ z ∷ s ∷ []) Z3 ≡ mul p (mul p 2 y) (mul p (mul p z z) (mul p z z))
z_is p x y z s f = ring_eq p (positive p f) (x ∷ y ∷ z ∷ s ∷ []) Z3 (times (times (num 2) (var 1))
    (fourth (var 2))) refl refl refl

pub minus_three : (p : ℕ) → IsField p → sub p 0 3 ≡ p - 3
minus_three p f =
    let h = f.above in
    let e : 3 % p ≡ 3 = mod-eq_of_lt h in
    let g : 0 + (p - 3 % p) ≡ p - 3 = omega arith in
    ap (λ k. k % p) g ∙ mod-eq_of_lt (omega arith)

-- where the slope is s
at_slope : (p x y z s : ℕ) → IsField p → mul p s (mul p 2 y) ≡ add p (mul p 3 (mul p x x))
    (sub p 0 3)
    → value p (x ∷ y ∷ z ∷ s ∷ []) Z3 ≢ 0
    → jacobian p (jacobian_double p (mul p x (mul p z z), mul p y (mul p z (mul p z z)), z)) ≡ Some
    (third p s x y x)
at_slope p x y z s f h nz =
    let env = x ∷ y ∷ z ∷ s ∷ [] in
    ap (jacobian p) (run p x y z s f h)
    ∙ view_some p (value p env X3) (value p env Y3) (value p env Z3) (value p env X')
    (value p env Y') f
    (below p _ f) (below p _ f) (below p _ f) nz (x_is p x y z s f) (y_is p x y z s f)

double_z : (p x y z : ℕ) → (jacobian_double p (x, y, z)).2 ≡ add p (mul p y z) (mul p y z)
unfolding jacobian_double
double_z p x y z = refl

double_flat : (p x y z : ℕ) → mul p y z ≡ 0 → jacobian p (jacobian_double p (x, y, z)) ≡ None
double_flat p x y z e = view_none p (jacobian_double p (x, y, z)) (double_z p x y z
    ∙ ap (λ k. add p k k) e ∙ zero-mod p)

-- at a point that is not infinity, with its triple in these coordinates
pub at_point : (p x y z : ℕ) → IsField p → x < p → y < p → z < p → z ≢ 0
    → jacobian p (jacobian_double p (
      mul p x (mul p z z),
      mul p y (mul p z
          (mul p z z)),
      z,
    )) ≡ double p (p - 3) (Some (x, y))
at_point p x y z f hx hy hz nz =
    ⊎_elim
    (λ t.
    rw t.0
    (double_flat p (mul p x (mul p z z)) (mul p y (mul p z (mul p z z))) z
    (ap (λ k. mul p (mul p k (mul p z (mul p z z))) z) t.1
    ∙ ap (λ k. mul p k z) (mul-zero-first p (mul p z (mul p z z))) ∙ mul-zero-first p z)))
    (λ t.
    let ny : y ≢ 0 = t.1 in
    let nz' = nonzero p z hz nz in
    let n2y = product-nonzero p 2 y f (two_nonzero p f) (nonzero p y hy ny) in
    let nzz = product-nonzero p z z f nz' nz' in
    let n4 = product-nonzero p (mul p z z) (mul p z z) f nzz nzz in
    let num = add p (mul p 3 (mul p x x)) (sub p 0 3) in
    let s = mul p num (inverse p (mul p 2 y)) in
    let h = quotient-times p num (mul p 2 y) f (below p (mul p 3 (mul p x x) + sub p 0 3) f) n2y in
    let n3 = product-nonzero p (mul p 2 y) (mul p (mul p z z) (mul p z z)) f n2y n4 in
    let nz3 : value p (x ∷ y ∷ z ∷ s ∷ []) Z3 ≢ 0 = λ e. n3 (ap (λ k. k % p) (sym (z_is p x y z s f)
    ∙ e) ∙ zero-mod p) in
    rw t.0
    (at_slope p x y z s f h nz3
    ∙ ap (λ k. let o : Point = Some (third p (mul p (add p (mul p 3 (mul p x x)) k) (inverse p
    (mul p 2 y))) x y x) in o) (minus_three p f)))
    (eqb_tells y 0)

at_triple : (p x y z a b : ℕ) → IsField p → a < p → b < p → z < p → z ≢ 0 → mul p a (mul p z z) ≡ x
    → mul p b (mul p z (mul p z z)) ≡ y
    → jacobian p (jacobian_double p (x, y, z)) ≡ double p (p - 3) (Some (a, b))
at_triple p x y z a b f ha hb hz nz ex ey =
    subst (λ k. jacobian p (jacobian_double p (k, y, z)) ≡ double p (p - 3) (Some (a, b))) ex
    (subst (λ k. jacobian p (jacobian_double p (mul p a (mul p z z), k, z)) ≡ double p (p - 3) (Some
    (a, b))) ey
    (at_point p a b z f ha hb hz nz))

-- the coordinates of a triple that is not infinity
pub view_is : (p x y z : ℕ) → z ≢ 0
    → jacobian p (x, y, z) ≡ Some (
      mul p x (mul p (inverse p z) (inverse p z)),
      mul p y (mul p
          (inverse p z) (mul p (inverse p z) (inverse p z))),
    )
unfolding jacobian
view_is p x y z nz = rw (ne_eqb z 0 nz) refl

-- the code's doubling is that of the standard
pub double_right : (p x y z : ℕ) → IsField p → x < p → y < p → z < p
    → jacobian p (jacobian_double p (x, y, z)) ≡ double p (p - 3) (jacobian p (x, y, z))
double_right p x y z f hx hy hz =
    ⊎_elim
    (λ t.
    rw (view_none p (x, y, z) t.1) (double_flat p x y z (ap (mul p y) t.1 ∙ mul-zero-second p y)))
    (λ t.
    let nz : z ≢ 0 = t.1 in
    let i = inverse p z in
    let e = f.inverts z (nonzero p z hz nz) in
    rw (view_is p x y z nz)
    (at_triple p x y z (mul p x (mul p i i)) (mul p y (mul p i (mul p i i))) f (below p _ f)
    (below p _ f) hz nz
    (back_square p x z i f hx e) (back_cube p y z i f hy e)))
    (eqb_tells z 0)
