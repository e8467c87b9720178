use Rattle.ts_curve.proofs.Triples.{view_affine}
use Rattle.ts_curve.proofs.point.CurvePoint.new.Goals as goal

pub returns : goal.returns
returns g c =
    rw (c.copy.ensures.same, c.copy-2.ensures.same, c.one.ensures)
    (view_affine g.M.Modulus.prime c.args.x.now c.args.y.now g.met.M.Modulus.is_field
    c.copy.ensures.below c.copy-2.ensures.below)
