use Rattle.ts_curve.proofs.Triples.{view_none}
use Rattle.ts_curve.proofs.point.CurvePoint.infinity.Goals as goal

pub returns : goal.returns
returns g c =
    view_none g.M.Modulus.prime (c.zero.result, c.zero-2.result, c.zero-3.result) c.zero-3.ensures
