use Rattle.std.proofs.Common.{◌≢◌, refl, sym, ◌∙◌}
use Rattle.std.proofs.lemmas.Bool.{false≢true}
use Rattle.ts_ring.specs.Modular.{mul, inverse}
use Rattle.ts_curve.proofs.Triples.{view_none}
use Rattle.ts_curve.proofs.Double.{view_is}
use Rattle.ts_curve.proofs.point.CurvePoint.x.Goals as goal

pub returns-then-is_equal-clause-none : goal.returns-then-is_equal-clause-none
returns-then-is_equal-clause-none g c =
    let t = c.self.inside in
    sym c.self.view_is
    ∙ view_none g.M.Modulus.prime (t.x, t.y, t.z) (c.if-is_equal.ensures.0 refl ∙ c.zero.ensures)

pub returns-clause-found : goal.returns-clause-found
returns-clause-found g c =
    let p = g.M.Modulus.prime in
    let t = c.self.inside in
    let i = inverse p t.z in
    let n : t.z ≢ 0 = λ k. false≢true (c.if-is_equal.ensures.1 (k ∙ sym c.zero.ensures)) in (
      mul p t.y (mul p i (mul p i i)),
      rw (c.product.ensures, c.square.ensures, c.inverse-inverse.ensures)
          (sym c.self.view_is ∙ view_is p t.x t.y t.z n),
    )
