-- The walk over the points of a certificate.
use Rattle.std.proofs.Common.{◌≡◌, ℕ, zero, suc, ◌+◌, ◌≤◌, Bool, true, false, cond, List, [], ◌∷◌, length, Option, Some, None, Result, Ok, Err, refl, ap, ◌∙◌, if◌then◌else◌, arith}
use Rattle.ts_der.specs.declared.fault.Fault.{Fault}
use Rattle.ts_der.specs.Element.{Place, Tlv}
use Rattle.ts_der.specs.Reading.{is_end}
use Rattle.ts_shape.specs.Items.{each, first_then, upto_from, items_at}
use Rattle.ts_ext.specs.Points.{Point, ListScope}
use Rattle.ts_revoke.specs.inside.ByList.{is_reached, first_reached}
use Rattle.ts_revoke.specs.Decision.{or_reason}

few : {A : Type 0} (n : ℕ) (value : Tlv → Result A Fault) (here : Place) → length (upto_from n value here) ≤ n
few zero value here = omega arith
few {A} (suc n) value here = by_end (λ p. few n value p) (is_end here.rest) (each value here)
  where
    by_end : ((p : Place) → length (upto_from n value p) ≤ n) → (b : Bool) (r : Result (A × Place) Fault)
        → length (if b then [] else first_then r (upto_from n value)) ≤ suc n
    by_end rest true r = omega arith
    by_end rest false (Ok x) = let h = rest x.1 in omega arith
    by_end rest false (Err f) = omega arith

-- there are no more items than octets
pub items_few : {A : Type 0} (value : Tlv → Result A Fault) (here : Place) → length (items_at value here) ≤ length here.rest
unfolding items_at
items_few value here = few (length here.rest) value here

-- one point more
pub place_more : (scope : Option ListScope) (place noted : Option ℕ) (reached : Bool) (i j : ℕ) (p : Point) (ps : List Point)
    → reached ≡ is_reached scope p → noted ≡ or_reason place (if reached then Some i else None) → j ≡ i + 1
    → or_reason noted (first_reached scope j ps) ≡ or_reason place (first_reached scope i (p ∷ ps))
place_more scope place noted reached i j p ps e f g =
    rw (f, g) (ap (λ b. or_reason (or_reason place (if b then Some i else None))
    (first_reached scope (i + 1) ps)) e
    ∙ cases place (is_reached scope p) (first_reached scope (i + 1) ps))
  where
    cases : (a : Option ℕ) (b : Bool) (r : Option ℕ) → or_reason (or_reason a (if b then Some i else None)) r ≡ or_reason a (cond b (Some i) r)
    cases (Some x) b r = refl
    cases None true r = refl
    cases None false r = refl
