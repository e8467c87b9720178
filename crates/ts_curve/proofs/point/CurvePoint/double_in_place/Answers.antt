use Rattle.std.proofs.Common.{◌-◌, ap, ◌∙◌}
use Rattle.ts_curve.specs.Points.{double}
use Rattle.ts_curve.specs.Jacobian.{jacobian}
use Rattle.ts_curve.proofs.Double.{double_right}
use Rattle.ts_curve.proofs.point.CurvePoint.double_in_place.Goals as goal

pub returns : goal.returns
returns g c =
    let p = g.M.Modulus.prime in
    let t = c.self.inside in
    let i = c.self.invariant in
    ap (jacobian p) c.double.ensures.coordinates
    ∙ double_right p t.x t.y t.z g.met.M.Modulus.is_field i.0 i.1 i.2
    ∙ ap (double p (p - 3)) c.self.view_is
