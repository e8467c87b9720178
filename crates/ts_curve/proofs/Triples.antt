-- Triples of Jacobian coordinates, and the points that they are.
use Rattle.std.proofs.Common.{◌≡◌, ◌≢◌, ℕ, ◌<◌, false, eqb, [], ◌∷◌, Some, None, refl, sym, ap, ◌∙◌, arith}
use Rattle.std.proofs.lemmas.Bool.{ne_eqb}
use Rattle.ts_ring.specs.Expression.{var, times, square, cube}
use Rattle.ts_ring.specs.Modular.{mul, inverse, IsField}
use Rattle.ts_ring.proofs.Fields.{ring_eq, positive, mul-one, mul-one-one, nonzero}
use Rattle.ts_curve.specs.Jacobian.{Triple, jacobian}

-- x / z^2 times z^2 is x
pub back_square : (p x z i : ℕ) → IsField p → x < p → mul p z i ≡ 1
    → mul p (mul p x (mul p i i)) (mul p z z) ≡ x
back_square p x z i f h e =
    ring_eq p (positive p f) (x ∷ z ∷ i ∷ []) (times (times (var 0) (square (var 2))) (square
    (var 1))) (times (var 0) (square (times (var 1) (var 2)))) refl refl refl
    ∙ ap (λ k. mul p x (mul p k k)) e ∙ ap (mul p x) (mul-one-one p f) ∙ mul-one p x h

pub back_cube : (p x z i : ℕ) → IsField p → x < p → mul p z i ≡ 1
    → mul p (mul p x (mul p i (mul p i i))) (mul p z (mul p z z)) ≡ x
back_cube p x z i f h e =
    ring_eq p (positive p f) (x ∷ z ∷ i ∷ []) (times (times (var 0) (cube (var 2))) (cube (var 1)))
    (times (var 0) (cube (times (var 1) (var 2)))) refl refl refl
    ∙ ap (λ k. mul p x (mul p k (mul p k k))) e ∙ ap (λ k. mul p x (mul p 1 k)) (mul-one-one p f)
    ∙ ap (mul p x) (mul-one-one p f) ∙ mul-one p x h

pub forth_square : (p x z i : ℕ) → IsField p → x < p → mul p z i ≡ 1
    → mul p (mul p x (mul p z z)) (mul p i i) ≡ x
forth_square p x z i f h e =
    ring_eq p (positive p f) (x ∷ z ∷ i ∷ []) (times (times (var 0) (square (var 1))) (square
    (var 2))) (times (var 0) (square (times (var 1) (var 2)))) refl refl refl
    ∙ ap (λ k. mul p x (mul p k k)) e ∙ ap (mul p x) (mul-one-one p f) ∙ mul-one p x h

pub forth_cube : (p x z i : ℕ) → IsField p → x < p → mul p z i ≡ 1
    → mul p (mul p x (mul p z (mul p z z))) (mul p i (mul p i i)) ≡ x
forth_cube p x z i f h e =
    ring_eq p (positive p f) (x ∷ z ∷ i ∷ []) (times (times (var 0) (cube (var 1))) (cube (var 2)))
    (times (var 0) (cube (times (var 1) (var 2)))) refl refl refl
    ∙ ap (λ k. mul p x (mul p k (mul p k k))) e ∙ ap (λ k. mul p x (mul p 1 k)) (mul-one-one p f)
    ∙ ap (mul p x) (mul-one-one p f) ∙ mul-one p x h

-- ---- what triple stands for what point
pub view_none : (p : ℕ) (t : Triple) → t.2 ≡ 0 → jacobian p t ≡ None
unfolding jacobian
view_none p t e = rw e refl

pub view_some : (p x y z a b : ℕ) → IsField p → a < p → b < p → z < p → z ≢ 0
    → x ≡ mul p a (mul p z z) → y ≡ mul p b (mul p z (mul p z z))
    → jacobian p (x, y, z) ≡ Some (a, b)
unfolding jacobian
view_some p x y z a b f ha hb hz nz ex ey =
    let e = f.inverts z (nonzero p z hz nz) in
    let i = inverse p z in
    let no : eqb z 0 ≡ false = ne_eqb z 0 nz in
    let first_is : mul p x (mul p i i) ≡ a = ap (λ k. mul p k (mul p i i)) ex
    ∙ forth_square p a z i f ha e in
    let second_is : mul p y (mul p i (mul p i i)) ≡ b = ap (λ k. mul p k (mul p i (mul p i i))) ey
    ∙ forth_cube p b z i f hb e in
    rw (no, first_is, second_is) refl

pub view_affine : (p x y : ℕ) → IsField p → x < p → y < p → jacobian p (x, y, 1) ≡ Some (x, y)
view_affine p x y f hx hy =
    let h = f.above in
    view_some p x y 1 x y f hx hy (omega (arith, h)) (omega arith)
    (sym (ap (mul p x) (mul-one-one p f) ∙ mul-one p x hx))
    (sym (ap (λ k. mul p y (mul p 1 k)) (mul-one-one p f) ∙ ap (mul p y) (mul-one-one p f)
    ∙ mul-one p y hy))
