use Rattle.std.proofs.Common.{refl}
use Rattle.ts_eddsa.specs.Points.{double}
use Rattle.ts_eddsa.proofs.point.EdwardsPoint.double.Goals as goal

pub returns : goal.returns
unfolding double
returns c =
    rw (
      ← c.self.view_is,
      c.complete.ensures,
      c.sum-f.ensures,
      c.difference-e.ensures,
      c.square-square.ensures,
      c.sum-c.ensures,
      c.difference-g.ensures,
      c.sum-s.ensures,
      c.sum-h.ensures,
      c.square-zz.ensures,
      c.square-b.ensures,
      c.square-a.ensures,
    ) refl
