use Rattle.std.proofs.Common.{◌≡◌, ℕ, ◌<◌, [], ◌∷◌, refl, ap, ◌∙◌}
use Rattle.ts_ring.specs.Expression.{var, plus, times, square}
use Rattle.ts_ring.specs.Modular.{add, mul}
use Rattle.ts_ring.proofs.Fields.{ring_eq, positive}
use Rattle.ts_curve.specs.Jacobian.{jacobian_double}
use Rattle.ts_curve.proofs.jacobian.double.Goals as goal

-- a product with twice a number
twice_product : (p x y : ℕ) → 0 < p → mul p x (add p y y) ≡ add p (mul p x y) (mul p x y)
twice_product p x y pos =
    ring_eq p pos (x ∷ y ∷ []) (times (var 0) (plus (var 1) (var 1)))
    (plus (times (var 0) (var 1)) (times (var 0) (var 1))) refl refl refl

-- the square of twice a number
twice_square : (p x : ℕ) → 0 < p → mul p (add p x x) (add p x x)
    ≡ add p (add p (mul p x x) (mul p x x)) (add p (mul p x x) (mul p x x))
twice_square p x pos =
    ring_eq p pos (x ∷ []) (square (plus (var 0) (var 0)))
    (plus (plus (square (var 0)) (square (var 0))) (plus (square (var 0)) (square (var 0))))
    refl refl refl

pub returns-clause-coordinates : goal.returns-clause-coordinates
unfolding jacobian_double
returns-clause-coordinates g c =
    let p = g.M.Modulus.prime in
    let pos = positive p g.met.M.Modulus.is_field in
    let gamma = c.square-gamma.result in
    let twice = c.sum-gamma2.ensures in
    let beta2 = c.product-beta2.ensures ∙ ap (mul p c.args.x.now) twice
    ∙ twice_product p c.args.x.now gamma pos in
    let gg4 = c.square-gg4.ensures ∙ ap (λ k. mul p k k) twice ∙ twice_square p gamma pos in
    rw (
      c.difference-y3.ensures,
      c.product-slope.ensures,
      c.difference-down.ensures,
      c.sum-gg8.ensures,
      gg4,
      c.sum-z3.ensures,
      c.product-yz.ensures,
      c.difference-x3.ensures,
      c.square-alpha2.ensures,
      c.sum-beta8.ensures,
      c.sum-beta4.ensures,
      beta2,
      c.sum-alpha.ensures,
      c.sum-mm.ensures,
      c.product-m.ensures,
      c.sum-right.ensures,
      c.difference-left.ensures,
      c.square-gamma.ensures,
      c.square-delta.ensures,
    )
    refl
