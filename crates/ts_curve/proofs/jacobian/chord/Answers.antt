use Rattle.std.proofs.Common.{refl}
use Rattle.ts_curve.specs.Jacobian.{chord_sum}
use Rattle.ts_curve.proofs.jacobian.chord.Goals as goal

pub returns-clause-coordinates : goal.returns-clause-coordinates
unfolding chord_sum
returns-clause-coordinates g c =
    rw (
      c.product-z3.ensures,
      c.product_by-zw.ensures,
      c.difference-y3.ensures,
      c.product-base.ensures,
      c.product-slope.ensures,
      c.difference-down.ensures,
      c.difference-x3.ensures,
      c.difference-left.ensures,
      c.sum-vv.ensures,
      c.square-rr.ensures,
      c.product-v.ensures,
      c.product-hhh.ensures,
      c.square-hh.ensures,
      c.difference-r.ensures,
      c.difference-h.ensures,
    )
    refl
