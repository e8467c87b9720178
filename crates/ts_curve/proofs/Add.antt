-- The sum of two points in Jacobian coordinates is the points' sum.
use Rattle.std.proofs.Common.{◌≡◌, ◌≢◌, ℕ, ◌+◌, ◌-◌, ◌%◌, ◌<◌, List, [], ◌∷◌, Some, None, refl, sym, ap, subst, ◌∙◌, ⊎_elim}
use Rattle.std.proofs.Math.Nat.{zero-mod}
use Rattle.std.proofs.lemmas.Bool.{ne_eqb, eq-eqb}
use Rattle.std.proofs.lemmas.Bool.Decides.{eqb_tells}
use Rattle.ts_ring.specs.Expression.{Expression, var, plus, minus, times, value, square, cube}
use Rattle.ts_ring.specs.Modular.{sub, mul, inverse, IsField}
use Rattle.ts_ring.proofs.Fields.{ring_eq, positive, quotient-times, product-nonzero, below, nonzero, cancel, difference-nonzero, mul-turned}
use Rattle.ts_curve.specs.Points.{Point, third, sum, chord}
use Rattle.ts_curve.specs.Jacobian.{Triple, jacobian, jacobian_double, chord_sum, jacobian_chord, jacobian_sum}
use Rattle.ts_curve.proofs.Triples.{view_none, view_some, back_square, back_cube}
use Rattle.ts_curve.proofs.Double.{view_is, at_point}

-- the coordinates of triples for (x, y) and (x', y')
abbrev X1 : Expression
X1 = times (var 0) (square (var 2))

abbrev Y1 : Expression
Y1 = times (var 1) (cube (var 2))

abbrev X2 : Expression
X2 = times (var 3) (square (var 5))

abbrev Y2 : Expression
Y2 = times (var 4) (cube (var 5))

abbrev U1 : Expression
U1 = times X1 (square (var 5))

abbrev U2 : Expression
U2 = times X2 (square (var 2))

abbrev S1 : Expression
S1 = times Y1 (cube (var 5))

abbrev S2 : Expression
S2 = times Y2 (cube (var 2))

abbrev H : Expression
H = minus U2 U1

abbrev R : Expression
R = minus S2 S1

abbrev Z3 : Expression
Z3 = times (times (var 2) (var 5)) H

abbrev V : Expression
V = times U1 (square H)

-- the same with s * z3 for r
abbrev X3 : Expression
X3 = minus (minus (square (times (var 6) Z3)) (cube H)) (plus V V)

abbrev Y3 : Expression
Y3 = minus (times (times (var 6) Z3) (minus V X3)) (times S1 (cube H))

-- the third point
abbrev X' : Expression
X' = minus (minus (square (var 6)) (var 0)) (var 3)

abbrev Y' : Expression
Y' = minus (times (var 6) (minus (var 0) X')) (var 1)

abbrev ZZ : Expression
ZZ = times (var 2) (var 5)

abbrev env_of : ℕ → ℕ → ℕ → ℕ → ℕ → ℕ → ℕ → List ℕ
env_of x y z x' y' z' s = x ∷ y ∷ z ∷ x' ∷ y' ∷ z' ∷ s ∷ []

-- the slope's equation
r_is : (p x y z x' y' z' s : ℕ) → IsField p → mul p s (sub p x' x) ≡ sub p y' y
    → value p (env_of x y z x' y' z' s) R ≡ value p (env_of x y z x' y' z' s) (times (var 6) Z3)
r_is p x y z x' y' z' s f h =
    let env = env_of x y z x' y' z' s in
    let pos = positive p f in
    ring_eq p pos env R (times (minus (var 4) (var 1)) (cube ZZ)) refl refl refl
    ∙ ap (λ k. mul p k (value p env (cube ZZ))) (sym h)
    ∙ ring_eq p pos env (times (times (var 6) (minus (var 3) (var 0))) (cube ZZ)) (times
    (var 6) Z3) refl refl refl

h_is : (p x y z x' y' z' : ℕ) → IsField p
    → value p (env_of x y z x' y' z' 0) H ≡ value p (env_of x y z x' y' z' 0) (times (minus (var 3)
    (var 0)) (square ZZ))
h_is p x y z x' y' z' f = ring_eq p (positive p f) (env_of x y z x' y' z' 0) H (times (minus (var 3)
    (var 0)) (square ZZ)) refl refl refl

x_is : (p x y z x' y' z' s : ℕ) → IsField p → value p (env_of x y z x' y' z' s) X3 ≡ value p
    (env_of x y z x' y' z' s) (times X' (square Z3))
x_is p x y z x' y' z' s f = ring_eq p (positive p f) (env_of x y z x' y' z' s) X3 (times X'
    (square Z3)) refl refl refl

y_is : (p x y z x' y' z' s : ℕ) → IsField p → value p (env_of x y z x' y' z' s) Y3 ≡ value p
    (env_of x y z x' y' z' s) (times Y' (cube Z3))
y_is p x y z x' y' z' s f = ring_eq p (positive p f) (env_of x y z x' y' z' s) Y3 (times Y'
    (cube Z3)) refl refl refl

-- the code's triple, with s * z3 for r
run : (p x y z x' y' z' s : ℕ) → IsField p → mul p s (sub p x' x) ≡ sub p y' y
    → let env = env_of x y z x' y' z' s in
    jacobian_chord p (value p env X1, value p env Y1, z)
    (value p env X2, value p env Y2, z') ≡ (value p env X3, value p env Y3, value p env Z3)
unfolding jacobian_chord chord_sum
run p x y z x' y' z' s f h =
    let env = env_of x y z x' y' z' s in
    ap (λ k. let u = sub p (sub p (mul p k k) (value p env (cube H))) (value p env (plus V V)) in
    let t : Triple = (
      u,
      sub p (mul p k (sub p (value p env V) u)) (value p env (times S1
          (cube H))),
      value p env Z3,
    ) in t)
    (r_is p x y z x' y' z' s f h)

at_slope : (p x y z x' y' z' s : ℕ) → IsField p → mul p s (sub p x' x) ≡ sub p y' y
    → let env = env_of x y z x' y' z' s in
    value p env Z3 ≢ 0
    → jacobian p (jacobian_chord p (value p env X1, value p env Y1, z)
    (value p env X2, value p env Y2, z')) ≡ Some (third p s x y x')
at_slope p x y z x' y' z' s f h nz =
    let env = env_of x y z x' y' z' s in
    ap (jacobian p) (run p x y z x' y' z' s f h)
    ∙ view_some p (value p env X3) (value p env Y3) (value p env Z3) (value p env X')
    (value p env Y') f
    (below p _ f) (below p _ f) (below p _ f) nz (x_is p x y z x' y' z' s f)
    (y_is p x y z x' y' z' s f)

-- both first coordinates over one denominator, and both second ones
over_two : (p x z w : ℕ) → IsField p → mul p (mul p x (mul p z z)) (mul p w w) ≡ mul p x (mul p
    (mul p z w) (mul p z w))
over_two p x z w f = ring_eq p (positive p f) (x ∷ z ∷ w ∷ []) (times (times (var 0) (square
    (var 1))) (square (var 2))) (times (var 0) (square (times (var 1) (var 2)))) refl refl refl

over_three : (p x z w : ℕ) → IsField p
    → mul p (mul p x (mul p z (mul p z z))) (mul p w (mul p w w)) ≡ mul p x (mul p (mul p z w)
    (mul p (mul p z w) (mul p z w)))
over_three p x z w f = ring_eq p (positive p f) (x ∷ z ∷ w ∷ []) (times (times (var 0) (cube
    (var 1))) (cube (var 2))) (times (var 0) (cube (times (var 1) (var 2)))) refl refl refl

-- ---- the cases of the code
pub left : (p : ℕ) (t u : Triple) → t.2 ≡ 0 → jacobian_sum p t u ≡ u
unfolding jacobian_sum
left p t u e = rw e refl

pub right : (p : ℕ) (t u : Triple) → t.2 ≢ 0 → u.2 ≡ 0 → jacobian_sum p t u ≡ t
unfolding jacobian_sum
right p t u n e = rw (ne_eqb t.2 0 n, e) refl

pub same_first : (p : ℕ) (t u : Triple) → t.2 ≢ 0 → u.2 ≢ 0
    → mul p t.0 (mul p u.2 u.2) ≡ mul p u.0 (mul p t.2 t.2)
    → mul p t.1 (mul p u.2 (mul p u.2 u.2)) ≡ mul p u.1 (mul p t.2 (mul p t.2 t.2))
    → jacobian_sum p t u ≡ jacobian_double p t
unfolding jacobian_sum
same_first p t u n m e g = rw (ne_eqb t.2 0 n, ne_eqb u.2 0 m, eq-eqb _ _ e, eq-eqb _ _ g) refl

pub opposite : (p : ℕ) (t u : Triple) → t.2 ≢ 0 → u.2 ≢ 0
    → mul p t.0 (mul p u.2 u.2) ≡ mul p u.0 (mul p t.2 t.2)
    → mul p t.1 (mul p u.2 (mul p u.2 u.2)) ≢ mul p u.1 (mul p t.2 (mul p t.2 t.2))
    → jacobian_sum p t u ≡ (0, 0, 0)
unfolding jacobian_sum
opposite p t u n m e g = rw (ne_eqb t.2 0 n, ne_eqb u.2 0 m, eq-eqb _ _ e, ne_eqb _ _ g) refl

pub apart : (p : ℕ) (t u : Triple) → t.2 ≢ 0 → u.2 ≢ 0
    → mul p t.0 (mul p u.2 u.2) ≢ mul p u.0 (mul p t.2 t.2)
    → jacobian_sum p t u ≡ jacobian_chord p t u
unfolding jacobian_sum
apart p t u n m e = rw (ne_eqb t.2 0 n, ne_eqb u.2 0 m, ne_eqb _ _ e) refl

-- at points that are not infinity, with their triples in these coordinates
at_points : (p x y z x' y' w : ℕ) → IsField p → x < p → y < p → z < p → x' < p → y' < p → w < p
    → z ≢ 0 → w ≢ 0
    → jacobian p (jacobian_sum p (mul p x (mul p z z), mul p y (mul p z (mul p z z)), z) (
      mul p x'
          (mul p w w),
      mul p y' (mul p w (mul p w w)),
      w,
    ))
    ≡ sum p (p - 3) (Some (x, y)) (Some (x', y'))
at_points p x y z x' y' w f hx hy hz hx' hy' hw nz nw =
    let t : Triple = (mul p x (mul p z z), mul p y (mul p z (mul p z z)), z) in
    let u : Triple = (mul p x' (mul p w w), mul p y' (mul p w (mul p w w)), w) in
    let nzz = product-nonzero p z w f (nonzero p z hz nz) (nonzero p w hw nw) in
    let n2 = product-nonzero p (mul p z w) (mul p z w) f nzz nzz in
    let n3 = product-nonzero p (mul p z w) (mul p (mul p z w) (mul p z w)) f nzz n2 in
    let first_of_u : mul p u.0 (mul p z z) ≡ mul p x' (mul p (mul p z w) (mul p z w)) =
    over_two p x' w z f ∙ ap (λ k. mul p x' (mul p k k)) (mul-turned p w z) in
    let second_of_u : mul p u.1 (mul p z (mul p z z)) ≡ mul p y' (mul p (mul p z w) (mul p
    (mul p z w) (mul p z w))) =
    over_three p y' w z f ∙ ap (λ k. mul p y' (mul p k (mul p k k))) (mul-turned p w z) in
    ⊎_elim
    (λ c.
    let e : mul p t.0 (mul p w w) ≡ mul p u.0 (mul p z z) = over_two p x z w f
    ∙ ap (λ k. mul p k (mul p (mul p z w) (mul p z w))) c.1 ∙ sym first_of_u in
    ⊎_elim
    (λ d.
    let g : mul p t.1 (mul p w (mul p w w)) ≡ mul p u.1 (mul p z (mul p z z)) =
    over_three p y z w f ∙ ap (λ k. mul p k (mul p (mul p z w) (mul p (mul p z w) (mul p z w)))) d.1
    ∙ sym second_of_u in
    rw (c.0, d.0) (ap (jacobian p) (same_first p t u nz nw e g) ∙ at_point p x y z f hx hy hz nz))
    (λ d.
    let g : mul p t.1 (mul p w (mul p w w)) ≢ mul p u.1 (mul p z (mul p z z)) =
    λ e'. let ne : y ≢ y' = d.1 in
    ne (cancel p y y' (mul p (mul p z w) (mul p (mul p z w) (mul p z w))) f hy hy' n3 (sym
    (over_three p y z w f) ∙ e' ∙ second_of_u)) in
    rw (c.0, d.0) (ap (jacobian p) (opposite p t u nz nw e g) ∙ view_none p (0, 0, 0) refl))
    (eqb_tells y y'))
    (λ c.
    let ne : x ≢ x' = c.1 in
    let e : mul p t.0 (mul p w w) ≢ mul p u.0 (mul p z z) =
    λ e'. ne (cancel p x x' (mul p (mul p z w) (mul p z w)) f hx hx' n2 (sym (over_two p x z w f)
    ∙ e' ∙ first_of_u)) in
    let nd = difference-nonzero p x x' f hx hx' ne in
    let s = chord p x y x' y' in
    let h = quotient-times p (sub p y' y) (sub p x' x) f (below p (y' + (p - y % p)) f) nd in
    let nh = product-nonzero p (sub p x' x) (mul p (mul p z w) (mul p z w)) f nd n2 in
    let his = h_is p x y z x' y' w f in
    let nh' : value p (env_of x y z x' y' w s) H % p ≢ 0 = λ k. nh (ap (λ v. v % p) (sym his)
    ∙ k) in
    let n = product-nonzero p (mul p z w) (value p (env_of x y z x' y' w s) H) f nzz nh' in
    let nz3 : value p (env_of x y z x' y' w s) Z3 ≢ 0 = λ k. n (ap (λ v. v % p) k ∙ zero-mod p) in
    rw c.0 (ap (jacobian p) (apart p t u nz nw e) ∙ at_slope p x y z x' y' w s f h nz3))
    (eqb_tells x x')

at_triples : (p x y z x' y' w a b a' b' : ℕ) → IsField p → a < p → b < p → z < p → a' < p → b' < p
    → w < p → z ≢ 0 → w ≢ 0
    → mul p a (mul p z z) ≡ x → mul p b (mul p z (mul p z z)) ≡ y → mul p a' (mul p w w) ≡ x'
    → mul p b' (mul p w (mul p w w)) ≡ y'
    → jacobian p (jacobian_sum p (x, y, z) (x', y', w)) ≡ sum p (p - 3) (Some (a, b)) (Some
    (a', b'))
at_triples p x y z x' y' w a b a' b' f ha hb hz ha' hb' hw nz nw ex ey ex' ey' =
    let Q : Triple → Triple → Type 0 = λ t u. jacobian p (jacobian_sum p t u) ≡ sum p (p - 3) (Some
    (a, b)) (Some (a', b')) in
    subst (λ k. Q (k, y, z) (x', y', w)) ex
    (subst (λ k. Q (mul p a (mul p z z), k, z) (x', y', w)) ey
    (subst (λ k. Q (mul p a (mul p z z), mul p b (mul p z (mul p z z)), z) (k, y', w)) ex'
    (subst (λ k. Q (mul p a (mul p z z), mul p b (mul p z (mul p z z)), z) (
      mul p a'
          (mul p w w),
      k,
      w,
    )) ey'
    (at_points p a b z a' b' w f ha hb hz ha' hb' hw nz nw))))

sum_none : (p a : ℕ) (q : Point) → sum p a q None ≡ q
sum_none p a None = refl
sum_none p a (Some t) = refl

-- the code's addition is that of the standard
pub add_right : (p x y z x' y' w : ℕ) → IsField p → x < p → y < p → z < p → x' < p → y' < p → w < p
    → jacobian p (jacobian_sum p (x, y, z) (x', y', w)) ≡ sum p (p - 3) (jacobian p (x, y, z))
    (jacobian p (x', y', w))
add_right p x y z x' y' w f hx hy hz hx' hy' hw =
    let t : Triple = (x, y, z) in
    let u : Triple = (x', y', w) in
    ⊎_elim
    (λ c. ap (jacobian p) (left p t u c.1) ∙ (rw (view_none p t c.1) refl))
    (λ c.
    ⊎_elim
    (λ d. ap (jacobian p) (right p t u c.1 d.1)
    ∙ (rw (view_none p u d.1) (sym (sum_none p (p - 3) (jacobian p t)))))
    (λ d.
    let i = inverse p z in
    let j = inverse p w in
    let e = f.inverts z (nonzero p z hz c.1) in
    let g = f.inverts w (nonzero p w hw d.1) in
    rw (view_is p x y z c.1, view_is p x' y' w d.1)
    (at_triples p x y z x' y' w (mul p x (mul p i i)) (mul p y (mul p i (mul p i i))) (mul p x'
    (mul p j j)) (mul p y' (mul p j (mul p j j)))
    f (below p _ f) (below p _ f) hz (below p _ f) (below p _ f) hw c.1 d.1
    (back_square p x z i f hx e) (back_cube p y z i f hy e) (back_square p x' w j f hx' g)
    (back_cube p y' w j f hy' g)))
    (eqb_tells w 0))
    (eqb_tells z 0)
