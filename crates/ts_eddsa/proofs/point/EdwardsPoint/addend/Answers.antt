use Rattle.std.proofs.Common.{refl}
use Rattle.ts_eddsa.proofs.point.EdwardsPoint.addend.Goals as goal

pub returns : goal.returns
returns c =
    rw (
      ← c.self.view_is,
      c.sum-2.ensures,
      c.product.ensures,
      c.sum.ensures,
      c.difference.ensures,
      c.sum-twice_d.ensures,
      c.from_limbs-d.ensures,
    ) refl
