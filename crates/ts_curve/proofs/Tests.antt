-- Tests say what the relations say.
use Rattle.std.proofs.Common.{◌≡◌, ℕ, Bool, true, false, ◌&&◌, ltb, eqb, IsTrue, ◌↔◌, refl, sym}
use Rattle.std.proofs.lemmas.Bool.{eqb-true, eq-eqb, ltb-true, lt-ltb, false≢true}
use Rattle.ts_ring.specs.Modular.{mul}
use Rattle.ts_curve.specs.Curves.{Curve, right_side, IsOnCurve, is_on_curve}

pub both : (a b : Bool) → (a && b) ≡ true → (a ≡ true) × (b ≡ true)
both true b h = (refl, h)
both false b h = absurd (false≢true h)

pub joined : (a b : Bool) → a ≡ true → b ≡ true → (a && b) ≡ true
joined a b p q = rw (p, q) refl

-- two tests of one fact agree
pub same_test : (a b : Bool) (P : Type 0) → (IsTrue a ↔ P) → (IsTrue b ↔ P) → a ≡ b
same_test true true P f g = refl
same_test true false P f g = sym (g.1 (f.0 refl))
same_test false true P f g = f.1 (g.0 refl)
same_test false false P f g = refl

pub on_curve_test : (c : Curve) (x y : ℕ) → IsTrue (is_on_curve c x y) ↔ IsOnCurve c x y
on_curve_test c x y =
    let equal = eqb (mul c.prime y y) (right_side c x) in (
      λ h.
          let a = both (ltb x c.prime) (ltb y c.prime && equal) h in
          let b = both (ltb y c.prime) equal a.1 in
          record {
            first = ltb-true x c.prime a.0;
            second = ltb-true y c.prime b.0;
            equation = eqb-true _ _ b.1;
          },
      λ p.
          joined (ltb x c.prime) (ltb y c.prime && equal) (lt-ltb x c.prime p.first)
          (joined (ltb y c.prime) equal (lt-ltb y c.prime p.second) (eq-eqb _ _ p.equation)),
    )
