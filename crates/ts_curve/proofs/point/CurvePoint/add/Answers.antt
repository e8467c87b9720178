use Rattle.std.proofs.Common.{◌-◌, ap, ◌∙◌}
use Rattle.ts_curve.specs.Points.{sum}
use Rattle.ts_curve.proofs.point.CurvePoint.add.Goals as goal

pub returns : goal.returns
returns g c =
    let p = g.M.Modulus.prime in
    c.sum.ensures.point ∙ ap (λ k. sum p (p - 3) k c.args.other.now) c.self.view_is
