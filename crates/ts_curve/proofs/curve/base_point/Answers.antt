use Rattle.std.proofs.Common.{◌≡◌, refl, ◌∙◌}
use Rattle.std.proofs.Math.Nat.{mod-eq_of_lt}
use Rattle.ts_curve.proofs.Tests.{on_curve_test}
use Rattle.ts_curve.proofs.curve.base_point.Goals as goal

pub returns : goal.returns
returns g c =
    let q = g.C.DomainParameters.curve in
    let e = g.met.C.DomainParameters.prime_is in
    let on = (on_curve_test q q.base_x q.base_y).0 g.met.C.DomainParameters.base_is_on in
    let x : c.from_limbs.result ≡ q.base_x =
    c.from_limbs.ensures ∙ (rw (c.base_x.ensures, e) (mod-eq_of_lt on.first)) in
    let y : c.from_limbs-2.result ≡ q.base_y =
    c.from_limbs-2.ensures ∙ (rw (c.base_y.ensures, e) (mod-eq_of_lt on.second)) in
    c.new.ensures ∙ (rw (x, y) refl)
