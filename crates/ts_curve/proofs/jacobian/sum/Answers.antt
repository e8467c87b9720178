use Rattle.std.proofs.Common.{◌≡◌, ◌≢◌, ℕ, ◌-◌, ◌<◌, refl, sym, ap, ◌∙◌}
use Rattle.std.proofs.lemmas.Bool.{false≢true}
use Rattle.ts_ring.specs.Modular.{mul, IsField}
use Rattle.ts_ring.proofs.Fields.{mul-one-one}
use Rattle.ts_curve.specs.Points.{Point, sum}
use Rattle.ts_curve.specs.Jacobian.{Triple, jacobian, jacobian_chord, jacobian_sum}
use Rattle.ts_curve.proofs.Add.{left, right, same_first, opposite, apart, add_right}
use Rattle.ts_curve.proofs.jacobian.sum.Goals as goal

-- a factor that is the square or the cube of 1
square_of_one : (p w ww : ℕ) → IsField p → ww ≡ mul p w w → w ≡ 1 → ww ≡ 1
square_of_one p w ww f e one = e ∙ ap (λ k. mul p k k) one ∙ mul-one-one p f

cube_of_one : (p w ww www : ℕ) → IsField p → ww ≡ mul p w w → www ≡ mul p w ww → w ≡ 1 → www ≡ 1
cube_of_one p w ww www f e g one =
    g ∙ ap (λ k. mul p k ww) one ∙ ap (mul p 1) (square_of_one p w ww f e one) ∙ mul-one-one p f

-- coordinates of the sum are those of the points' sum
points : (p : ℕ) (r t u : Triple) (q : Point) → IsField p → t.0 < p → t.1 < p → t.2 < p → u.0 < p
    → u.1 < p → u.2 < p → r ≡ jacobian_sum p t u → jacobian p u ≡ q
    → jacobian p r ≡ sum p (p - 3) (jacobian p t) q
points p r t u q f tx ty tz ux uy uz e v =
    ap (jacobian p) e ∙ add_right p t.0 t.1 t.2 u.0 u.1 u.2 f tx ty tz ux uy uz
    ∙ ap (sum p (p - 3) (jacobian p t)) v

-- what the code compares
products : (p : ℕ) (t u : Triple) (zz zzz ww www u1 u2 s1 s2 : ℕ) → zz ≡ mul p t.2 t.2
    → zzz ≡ mul p t.2 zz → ww ≡ mul p u.2 u.2 → www ≡ mul p u.2 ww → u1 ≡ mul p t.0 ww
    → u2 ≡ mul p u.0 zz → s1 ≡ mul p t.1 www → s2 ≡ mul p u.1 zzz
    → (mul p t.0 (mul p u.2 u.2) ≡ u1) × (mul p u.0 (mul p t.2 t.2) ≡ u2)
    × (mul p t.1 (mul p u.2 (mul p u.2 u.2)) ≡ s1) × (mul p u.1 (mul p t.2 (mul p t.2 t.2)) ≡ s2)
products p t u zz zzz ww www u1 u2 s1 s2 a b c d e f g h = (cc, cc, cc, cc)

pub product_by-u1-requires : goal.product_by-u1-requires
product_by-u1-requires g c h =
    let o = c.other.inside in
    let i = c.other.invariant in
    square_of_one g.M.Modulus.prime o.z o.zz g.met.M.Modulus.is_field i.3 (i.5 h)

pub product_by-s1-requires : goal.product_by-s1-requires
product_by-s1-requires g c h =
    let o = c.other.inside in
    let i = c.other.invariant in
    cube_of_one g.M.Modulus.prime o.z o.zz o.zzz g.met.M.Modulus.is_field i.3 i.4 (i.5 h)

pub returns-then-is_equal-clause-point : goal.returns-then-is_equal-clause-point
returns-then-is_equal-clause-point g c =
    let p = g.M.Modulus.prime in
    let o = c.other.inside in
    let i = c.other.invariant in
    let l = c.requires in
    let t : Triple = (c.args.x.now, c.args.y.now, c.args.z.now) in
    let u : Triple = (o.x, o.y, o.z) in
    let to = λ (r : Triple). points p r t u c.args.other.now g.met.M.Modulus.is_field l.0 l.1 l.2
    i.0 i.1 i.2 in
    let e : t.2 ≡ 0 = c.if-is_equal.ensures.0 refl ∙ c.zero-origin.ensures in
    to (c.copy.result, c.copy-then-is_equal.result, c.copy-then-is_equal-2.result)
    (rw (
      left p t u e,
      c.copy.ensures.same,
      c.copy-then-is_equal.ensures.same,
      c.copy-then-is_equal-2.ensures.same,
    ) refl)
    c.other.view_is

pub returns-then-is_equal-2-clause-point : goal.returns-then-is_equal-2-clause-point
returns-then-is_equal-2-clause-point g c =
    let p = g.M.Modulus.prime in
    let o = c.other.inside in
    let i = c.other.invariant in
    let l = c.requires in
    let t : Triple = (c.args.x.now, c.args.y.now, c.args.z.now) in
    let u : Triple = (o.x, o.y, o.z) in
    let to = λ (r : Triple). points p r t u c.args.other.now g.met.M.Modulus.is_field l.0 l.1 l.2
    i.0 i.1 i.2 in
    let e : t.2 ≢ 0 = λ k. false≢true (c.if-is_equal.ensures.1 (k ∙ sym c.zero-origin.ensures)) in
    let m : u.2 ≡ 0 = c.if-is_equal-2.ensures.0 refl ∙ c.zero-origin.ensures in
    to t (sym (right p t u e m)) c.other.view_is

pub returns-then-is_equal-3-clause-point : goal.returns-then-is_equal-3-clause-point
returns-then-is_equal-3-clause-point g c =
    let p = g.M.Modulus.prime in
    let o = c.other.inside in
    let i = c.other.invariant in
    let l = c.requires in
    let t : Triple = (c.args.x.now, c.args.y.now, c.args.z.now) in
    let u : Triple = (o.x, o.y, o.z) in
    let to = λ (r : Triple). points p r t u c.args.other.now g.met.M.Modulus.is_field l.0 l.1 l.2
    i.0 i.1 i.2 in
    let e : t.2 ≢ 0 = λ k. false≢true (c.if-is_equal.ensures.1 (k ∙ sym c.zero-origin.ensures)) in
    let m : u.2 ≢ 0 = λ k. false≢true (c.if-is_equal-2.ensures.1 (k ∙ sym c.zero-origin.ensures)) in
    let q = products p t u c.square-zz.result c.product-zzz.result o.zz o.zzz c.product_by-u1.result
    c.product-u2.result c.product_by-s1.result c.product-s2.result c.square-zz.ensures
    c.product-zzz.ensures i.3 i.4 c.product_by-u1.ensures c.product-u2.ensures
    c.product_by-s1.ensures c.product-s2.ensures in
    to (c.double.new.x, c.double.new.y, c.double.new.z)
    (c.double.ensures.coordinates ∙ sym (same_first p t u e m
    (q.0 ∙ c.if-not-is_equal.ensures.0 refl ∙ sym q.1)
    (q.2 ∙ c.if-is_equal-3.ensures.0 refl ∙ sym q.3)))
    c.other.view_is

pub returns-clause-point : goal.returns-clause-point
returns-clause-point g c =
    let p = g.M.Modulus.prime in
    let o = c.other.inside in
    let i = c.other.invariant in
    let l = c.requires in
    let t : Triple = (c.args.x.now, c.args.y.now, c.args.z.now) in
    let u : Triple = (o.x, o.y, o.z) in
    let to = λ (r : Triple). points p r t u c.args.other.now g.met.M.Modulus.is_field l.0 l.1 l.2
    i.0 i.1 i.2 in
    let e : t.2 ≢ 0 = λ k. false≢true (c.if-is_equal.ensures.1 (k ∙ sym c.zero-origin.ensures)) in
    let m : u.2 ≢ 0 = λ k. false≢true (c.if-is_equal-2.ensures.1 (k ∙ sym c.zero-origin.ensures)) in
    let q = products p t u c.square-zz.result c.product-zzz.result o.zz o.zzz c.product_by-u1.result
    c.product-u2.result c.product_by-s1.result c.product-s2.result c.square-zz.ensures
    c.product-zzz.ensures i.3 i.4 c.product_by-u1.ensures c.product-u2.ensures
    c.product_by-s1.ensures c.product-s2.ensures in
    to (c.zero.result, c.zero-2.result, c.zero-3.result)
    (rw (c.zero.ensures, c.zero-2.ensures, c.zero-3.ensures) (sym (opposite p t u e m
    (q.0 ∙ c.if-not-is_equal.ensures.0 refl ∙ sym q.1)
    (λ k. false≢true (c.if-is_equal-3.ensures.1 (sym q.2 ∙ k ∙ q.3))))))
    c.other.view_is

pub returns-then-not-is_equal-clause-point : goal.returns-then-not-is_equal-clause-point
unfolding jacobian_chord
returns-then-not-is_equal-clause-point g c =
    let p = g.M.Modulus.prime in
    let o = c.other.inside in
    let i = c.other.invariant in
    let l = c.requires in
    let t : Triple = (c.args.x.now, c.args.y.now, c.args.z.now) in
    let u : Triple = (o.x, o.y, o.z) in
    let to = λ (r : Triple). points p r t u c.args.other.now g.met.M.Modulus.is_field l.0 l.1 l.2
    i.0 i.1 i.2 in
    let e : t.2 ≢ 0 = λ k. false≢true (c.if-is_equal.ensures.1 (k ∙ sym c.zero-origin.ensures)) in
    let m : u.2 ≢ 0 = λ k. false≢true (c.if-is_equal-2.ensures.1 (k ∙ sym c.zero-origin.ensures)) in
    let q = products p t u c.square-zz.result c.product-zzz.result o.zz o.zzz c.product_by-u1.result
    c.product-u2.result c.product_by-s1.result c.product-s2.result c.square-zz.ensures
    c.product-zzz.ensures i.3 i.4 c.product_by-u1.ensures c.product-u2.ensures
    c.product_by-s1.ensures c.product-s2.ensures in
    to (c.chord.new.x, c.chord.new.y, c.chord.new.z)
    (c.chord.ensures.coordinates
    ∙ (rw (← q.0, ← q.1, ← q.2, ← q.3) refl)
    ∙ sym (apart p t u e m (λ k. false≢true (c.if-not-is_equal.ensures.1 (sym q.0 ∙ k ∙ q.1)))))
    c.other.view_is
