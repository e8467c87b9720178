use Rattle.std.proofs.Common.{refl}
use Rattle.ts_eddsa.specs.inside.Addend.{sum_by}
use Rattle.ts_eddsa.proofs.point.EdwardsPoint.add.Goals as goal

pub returns : goal.returns
unfolding sum_by
returns c =
    rw (
      ← c.self.view_is,
      ← c.other.view_is,
      c.complete.ensures,
      c.sum-h.ensures,
      c.sum-g.ensures,
      c.difference-f.ensures,
      c.difference-e.ensures,
      c.product-m.ensures,
      c.product-c.ensures,
      c.product-b.ensures,
      c.product-a.ensures,
      c.sum-y_more.ensures,
      c.difference-y_less.ensures,
    ) refl
