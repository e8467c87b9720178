use Rattle.std.proofs.Common.{◌≡◌, ◌<◌, ◌+◌, ◌-◌, ◌^◌, refl, sym, ap, ◌∙◌, arith}
use Rattle.ts_curve.specs.Curves.{base}
use Rattle.ts_curve.specs.Points.{joint_multiple}
use Rattle.ts_curve.proofs.Multiple.{more_bits}
use Rattle.ts_curve.proofs.curve.combination.Goals as goal

pub returns : goal.returns
returns g c =
    let q = g.C.DomainParameters.curve in
    let d = g.met.C.DomainParameters in
    let bits = g.C.Limbs.Limbs.BITS in
    let u = c.args.u.now in
    let v = c.args.v.now in
    let t = c.args.point.now in
    let fit : q.bits + (bits - q.bits) ≡ bits = omega (arith, d.bits_fit) in
    let lu : u < 2 ^ q.bits = omega (arith, c.copy-first.ensures.below, d.order_is, d.order_bits) in
    let lv : v < 2 ^ q.bits = omega (arith, c.copy-second.ensures.below, d.order_is, d.order_bits) in
    let code : c.joint_multiple.result ≡ joint_multiple q.prime q.a bits u v (base q) t =
    rw (
      c.joint_multiple.ensures,
      c.to_limbs.ensures,
      c.to_limbs-2.ensures,
      c.copy-first.ensures.same,
      c.copy-second.ensures.same,
      c.base_point.ensures,
      d.prime_is,
      sym d.a_is,
    ) refl in
    code ∙ ap (λ b. joint_multiple q.prime q.a b u v (base q) t) (sym fit)
    ∙ more_bits q.prime q.a (bits - q.bits) q.bits u v (base q) t lu lv
