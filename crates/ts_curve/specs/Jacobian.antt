-- Jacobian coordinates, and how the code computes with them.
use Rattle.std.specs.Prelude.{ℕ, nat_eq, if◌then◌else◌, Some, None}
use Rattle.ts_ring.specs.Modular.{add, sub, mul, inverse}
use Rattle.ts_curve.specs.Points.{Point}

abbrev pub Triple : Type 0
Triple = ℕ × ℕ × ℕ

-- the point (X / Z^2, Y / Z^3), or infinity where Z is 0
unfoldable pub jacobian : ℕ → Triple → Point
jacobian p t =
    if nat_eq t.2 0 then None
    else (let i = inverse p t.2 in
    let ii = mul p i i in Some (mul p t.0 ii, mul p t.1 (mul p i ii)))

-- the double of a point, where a is -3
unfoldable pub jacobian_double : ℕ → Triple → Triple
jacobian_double p t =
    let delta = mul p t.2 t.2 in
    let gamma = mul p t.1 t.1 in
    let beta = mul p t.0 gamma in
    let m = mul p (sub p t.0 delta) (add p t.0 delta) in
    let alpha = add p (add p m m) m in
    let beta2 = add p beta beta in
    let beta4 = add p beta2 beta2 in
    let x = sub p (mul p alpha alpha) (add p beta4 beta4) in
    let yz = mul p t.1 t.2 in
    let gg = mul p gamma gamma in
    let gg2 = add p gg gg in
    let gg4 = add p gg2 gg2 in
    (x, sub p (mul p alpha (sub p beta4 x)) (add p gg4 gg4), add p yz yz)

-- the sum of two points that differ in X / Z^2, by these coordinates over one denominator
unfoldable pub chord_sum : ℕ → ℕ → ℕ → ℕ → ℕ → ℕ → ℕ → Triple
chord_sum p z w u1 u2 s1 s2 =
    let h = sub p u2 u1 in
    let r = sub p s2 s1 in
    let hh = mul p h h in
    let hhh = mul p h hh in
    let v = mul p u1 hh in
    let x = sub p (sub p (mul p r r) hhh) (add p v v) in
    (x, sub p (mul p r (sub p v x)) (mul p s1 hhh), mul p (mul p z w) h)

unfoldable pub jacobian_chord : ℕ → Triple → Triple → Triple
jacobian_chord p t u =
    let zz = mul p t.2 t.2 in
    let ww = mul p u.2 u.2 in
    chord_sum p t.2 u.2 (mul p t.0 ww) (mul p u.0 zz) (mul p t.1 (mul p u.2 ww))
    (mul p u.1 (mul p t.2 zz))

-- the sum of two points, where a is -3
unfoldable pub jacobian_sum : ℕ → Triple → Triple → Triple
jacobian_sum p t u =
    if nat_eq t.2 0 then u else if nat_eq u.2 0 then t else
    if nat_eq (mul p t.0 (mul p u.2 u.2)) (mul p u.0 (mul p t.2 t.2))
    then (if nat_eq (mul p t.1 (mul p u.2 (mul p u.2 u.2))) (mul p u.1 (mul p t.2 (mul p t.2 t.2)))
    then jacobian_double p t else (0, 0, 0))
    else jacobian_chord p t u
