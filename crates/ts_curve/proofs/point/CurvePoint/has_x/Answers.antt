use Rattle.std.proofs.Common.{◌≡◌, ◌≢◌, refl, sym, ◌∙◌}
use Rattle.std.proofs.lemmas.Bool.{false≢true}
use Rattle.ts_ring.specs.Modular.{mul}
use Rattle.ts_curve.proofs.Triples.{view_none}
use Rattle.ts_curve.proofs.First.{first_is, first_only, first_below}
use Rattle.ts_curve.proofs.point.CurvePoint.has_x.Goals as goal

pub returns-then-is_equal-clause-exactly : goal.returns-then-is_equal-clause-exactly
returns-then-is_equal-clause-exactly g c =
    let t = c.self.inside in
    let none = view_none g.M.Modulus.prime (t.x, t.y, t.z)
    (c.if-is_equal.ensures.0 refl ∙ c.zero.ensures) in
    (λ h. absurd (false≢true h), λ h. absurd (let e = h.1 in let v = c.self.view_is in cc))

pub returns-then-is_equal-clause-below : goal.returns-then-is_equal-clause-below
returns-then-is_equal-clause-below g c x y e =
    let t = c.self.inside in
    first_below g.M.Modulus.prime t.x t.y t.z x y g.met.M.Modulus.is_field (c.self.view_is ∙ e)

pub returns-clause-exactly : goal.returns-clause-exactly
returns-clause-exactly g c =
    let p = g.M.Modulus.prime in
    let f = g.met.M.Modulus.is_field in
    let t = c.self.inside in
    let i = c.self.invariant in
    let x = c.args.x.now in
    let nz : t.z ≢ 0 = λ k. false≢true (c.if-is_equal.ensures.1 (k ∙ sym c.zero.ensures)) in
    let same : c.product.result ≡ mul p x (mul p t.z t.z) =
    rw (c.product.ensures, c.square.ensures, c.copy-first.ensures.same) refl in (
      λ h.
          let found = first_is p t.x t.y t.z x f i.0 i.2 c.copy-first.ensures.below nz
          (c.is_equal-2.ensures.0 h ∙ same) in
          (found.0, sym c.self.view_is ∙ found.1),
      λ h.
          c.is_equal-2.ensures.1 (first_only p t.x t.y t.z x h.0 f i.0 i.2 nz
          (c.self.view_is ∙ h.1) ∙ sym same),
    )

pub returns-clause-below : goal.returns-clause-below
returns-clause-below g c x y e =
    let t = c.self.inside in
    first_below g.M.Modulus.prime t.x t.y t.z x y g.met.M.Modulus.is_field (c.self.view_is ∙ e)
