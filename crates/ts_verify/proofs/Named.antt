-- Chains by names.
use Rattle.std.proofs.Common.{◌≡◌, ℕ, zero, suc, ◌<◌, ◌≤◌, inl, inr, Bool, true, false, not, ◌&&◌, ◌==◌, List, [], ◌∷◌, map, length, get_or}
use Rattle.std.proofs.Common.{Option, Some, None, slice_get, refl, sym, ap, ◌∙◌, arith, subst}
use Rattle.std.proofs.lemmas.Bool.{and_right}
use Rattle.std.proofs.lemmas.List.{length-map}
use Rattle.std.proofs.lemmas.Option.{slice_get_past}
use Rattle.std.specs.Prelude.{unwrap_or}
use Rattle.std.specs.List.{list_any}
use Rattle.ts_name.specs.Sameness.{is_same_name}
use Rattle.ts_cert.specs.declared.certificate.Cert.{Cert}
use Rattle.ts_cert.specs.CertView.{cert_in}
use Rattle.ts_cert.specs.Certificate.{Certificate}
use Rattle.ts_revoke.specs.Question.{Check}
use Rattle.ts_path.specs.Asked.{TrustAnchor}
use Rattle.ts_path.specs.View.{anchor_in}
use Rattle.ts_path.specs.declared.anchor.Anchor.{Anchor}
use Rattle.ts_search.specs.Candidates.{issues, is_issued_by}
use Rattle.ts_search.specs.Search.{certificates_at, with_certificate}
use Rattle.ts_verify.specs.Lines.{Climbs, HasTop, IsAnchorAbove, IsAnchorPlace, IsFirstPlace, IsNextAbove}
use Rattle.ts_verify.specs.Lines.{has_signed, is_anchored, is_next, is_signed_by, is_signed_under, is_under}
use Rattle.ts_verify.specs.inside.Climbing.{IsClimbed}
use Rattle.ts_verify.proofs.Places.{at_place}
use Rattle.ts_verify.proofs.Preferred.{IsSought, at_end}

-- ---- anchors

abbrev pub signs_under : Check → List TrustAnchor → List Certificate → ℕ → ℕ → Bool
signs_under good anchors certificates top a = is_signed_under good (slice_get certificates top) (slice_get anchors a)

-- the two tests of an anchor
pub anchored_is : (anchors : List Anchor) (certs : List Cert) (top a : ℕ) (cert : Cert) (anchor : Anchor) (b : Bool)
    → top < length certs → a < length anchors → cert ≡ get_or certs top cert → anchor ≡ get_or anchors a anchor
    → b ≡ is_same_name (cert_in cert).tbsCertificate.issuer (anchor_in anchor).name
    → is_anchored (map anchor_in anchors) (map cert_in certs) top a ≡ b
anchored_is anchors certs top a cert anchor b few fewer is are e =
    (λ i. is_under (at_place cert_in certs top cert few is i) (at_place anchor_in anchors a anchor fewer are i)) ∙ sym e

pub signed_under_is : (good : Check) (anchors : List Anchor) (certs : List Cert) (top a : ℕ) (cert : Cert) (anchor : Anchor) (b : Bool)
    → top < length certs → a < length anchors → cert ≡ get_or certs top cert → anchor ≡ get_or anchors a anchor
    → b ≡ has_signed good (anchor_in anchor).key (cert_in cert)
    → signs_under good (map anchor_in anchors) (map cert_in certs) top a ≡ b
signed_under_is good anchors certs top a cert anchor b few fewer is are e =
    (λ i. is_signed_under good (at_place cert_in certs top cert few is i) (at_place anchor_in anchors a anchor fewer are i)) ∙ sym e

not_under : (o : Option Certificate) → is_under o None ≡ false
not_under (Some c) = refl
not_under None = refl

pub anchors_end : (good : Check) (anchors : List Anchor) (certs : List Cert) (top : ℕ) (place : Option ℕ)
    → IsSought (is_anchored (map anchor_in anchors) (map cert_in certs) top) (signs_under good (map anchor_in anchors) (map cert_in certs) top)
    (length anchors) place
    → IsAnchorAbove good (map anchor_in anchors) (map cert_in certs) top place
anchors_end good anchors certs top place s =
    at_end (is_anchored (map anchor_in anchors) (map cert_in certs) top) (signs_under good (map anchor_in anchors) (map cert_in certs) top)
    (length anchors) place
    (λ a far. ap (λ o. is_under (slice_get (map cert_in certs) top) o)
    (slice_get_past (map anchor_in anchors) a (omega (arith, far, length-map anchors anchor_in)))
    ∙ not_under (slice_get (map cert_in certs) top))
    s

-- ---- certificates

abbrev pub signs : Check → List Certificate → ℕ → ℕ → Bool
signs good certificates top i = is_signed_by good (slice_get certificates top) (slice_get certificates i)

-- the two tests of a certificate
pub next_is : (certificates : List Certificate) (top : ℕ) (used : List ℕ) (i : ℕ) (b : Bool)
    → list_any (λ j. j == i) used ≡ false → issues certificates i top ≡ b → is_next certificates top used i ≡ b
next_is certificates top used i b unused test = ap (λ u. not u && issues certificates i top) unused ∙ test

pub used_is : (certificates : List Certificate) (top : ℕ) (used : List ℕ) (i : ℕ)
    → list_any (λ j. j == i) used ≡ true → is_next certificates top used i ≡ false
used_is certificates top used i is = ap (λ u. not u && issues certificates i top) is

pub signed_by_is : (good : Check) (certs : List Cert) (top i : ℕ) (cert above : Cert) (b : Bool)
    → top < length certs → i < length certs → cert ≡ get_or certs top cert → above ≡ get_or certs i above
    → b ≡ has_signed good (cert_in above).tbsCertificate.subjectPublicKeyInfo (cert_in cert)
    → signs good (map cert_in certs) top i ≡ b
signed_by_is good certs top i cert above b few fewer is are e =
    (λ j. is_signed_by good (at_place cert_in certs top cert few is j) (at_place cert_in certs i above fewer are j)) ∙ sym e

no_subject : (o : Option Certificate) → is_issued_by o None ≡ false
no_subject (Some c) = refl
no_subject None = refl

no_issuer : (certificates : List Certificate) (i j : ℕ) → length certificates ≤ i → issues certificates i j ≡ false
unfolding issues
no_issuer certificates i j far = ap (λ o. is_issued_by (slice_get certificates j) o) (slice_get_past certificates i far)
    ∙ no_subject (slice_get certificates j)

pub certificates_end : (good : Check) (certs : List Cert) (top : ℕ) (used : List ℕ) (place : Option ℕ)
    → IsSought (is_next (map cert_in certs) top used) (signs good (map cert_in certs) top) (length certs) place
    → IsNextAbove good (map cert_in certs) top used place
certificates_end good certs top used place s =
    at_end (is_next (map cert_in certs) top used) (signs good (map cert_in certs) top) (length certs) place
    (λ i far. and_right (not (list_any (λ j. j == i) used)) (issues (map cert_in certs) i top)
    (no_issuer (map cert_in certs) i top (omega (arith, far, length-map certs cert_in))))
    s

-- ---- the chain

-- so far, up to the certificate at this place
pub record IsUpTo (good : Check) (anchors : List TrustAnchor) (certificates : List Certificate) (places : List ℕ) (top : ℕ) : Type 0 where
  pub below : List ℕ
  pub places_are : places ≡ top ∷ below
  pub within : top < length certificates
  pub climbs : Climbs good anchors certificates (top ∷ below)
  pub few : length places ≤ 16

-- one more above
pub climb_more : (good : Check) (anchors : List TrustAnchor) (certificates : List Certificate) (places more : List ℕ) (top next : ℕ)
    → IsUpTo good anchors certificates places top → length places < 16
    → IsFirstPlace (is_anchored anchors certificates top) None → IsNextAbove good certificates top places (Some next)
    → next < length certificates → more ≡ next ∷ places → IsUpTo good anchors certificates more next
climb_more good anchors certificates places more top next c few unanchored above within is = record {
  below = top ∷ c.below;
  places_are = is ∙ ap (λ (ps : List ℕ). next ∷ ps) c.places_are;
  within = within;
  climbs = (c.climbs, unanchored, subst (λ (ps : List ℕ). IsNextAbove good certificates top ps (Some next)) c.places_are above);
  few = omega (arith, few, ap (λ (ps : List ℕ). length ps) is);
}

some_with : (cs : List Certificate) (i : ℕ) (below : List Certificate) → i < length cs → 1 ≤ length (with_certificate (slice_get cs i) below)
some_with [] i below few = absurd (omega (arith, few))
some_with (c ∷ cs) zero below few = omega arith
some_with (c ∷ cs) (suc i) below few = some_with cs i below (omega (arith, few))

few_with : (o : Option Certificate) (below : List Certificate) → length (with_certificate o below) ≤ suc (length below)
few_with None below = omega arith
few_with (Some c) below = omega arith

pub few_at : (cs : List Certificate) (places : List ℕ) → length (certificates_at cs places) ≤ length places
few_at cs [] = omega arith
few_at cs (i ∷ places) = omega (arith, few_with (slice_get cs i) (certificates_at cs places), few_at cs places)

under_is : (good : Check) (anchors : List TrustAnchor) (certificates : List Certificate) (top : ℕ) (below : List ℕ) (found : Option ℕ)
    → IsAnchorAbove good anchors certificates top found
    → IsAnchorPlace good anchors certificates (top ∷ below) (unwrap_or found 0)
under_is good anchors certificates top below (Some place) above = inl above
under_is good anchors certificates top below None above = inr (refl, above)

-- nothing is above the last
pub is_climbed : (good : Check) (anchors : List TrustAnchor) (certificates : List Certificate) (places : List ℕ) (top : ℕ) (found : Option ℕ)
    (c : IsUpTo good anchors certificates places top) → HasTop anchors certificates (top ∷ c.below)
    → IsAnchorAbove good anchors certificates top found → IsClimbed good anchors certificates places found
is_climbed good anchors certificates places top found c has_top above =
    subst (λ (ps : List ℕ). IsClimbed good anchors certificates ps found) (sym c.places_are) (record {
      climbs = c.climbs;
      has_top = has_top;
      few = omega (arith, c.few, ap (λ (ps : List ℕ). length ps) c.places_are);
      some = some_with certificates top (certificates_at certificates c.below) c.within;
      under = under_is good anchors certificates top c.below found above;
    })
