-- Chains by names: what is judged where no chain is valid. Certificates and anchors are told by
-- their places, counted from 0; the leaf has place 0.
use Rattle.std.specs.Prelude.{◌≡◌, ◌⊎◌, ◌<◌, ◌≤◌, ◌==◌, ◌&&◌, ℕ, Bool, true, false, not, length}
use Rattle.std.specs.Prelude.{List, [], ◌∷◌, Option, Some, None, slice_get}
use Rattle.std.specs.List.{list_any}
use Rattle.ts_name.specs.Sameness.{is_same_name}
use Rattle.ts_cert.specs.Certificate.{Certificate, KeyInfo}
use Rattle.ts_revoke.specs.OwnKey.{own_key}
use Rattle.ts_revoke.specs.Question.{Check}
use Rattle.ts_path.specs.Asked.{TrustAnchor}
use Rattle.ts_search.specs.Candidates.{issues}
use Rattle.ts_search.specs.Search.{certificates_at}

-- ---- places

-- the first place that passes a test, or none does
abbrev pub IsFirstPlace : (ℕ → Bool) → Option ℕ → Type 0
IsFirstPlace test (Some i) = (test i ≡ true) × ((k : ℕ) → k < i → test k ≡ false)
IsFirstPlace test None = (k : ℕ) → test k ≡ false

-- the first place that passes two tests; where none does, the first that passes the first of them
abbrev pub IsPreferredPlace : (ℕ → Bool) → (ℕ → Bool) → Option ℕ → Type 0
IsPreferredPlace named signed (Some i) = IsFirstPlace (λ k. named k && signed k) (Some i)
    ⊎ (IsFirstPlace (λ k. named k && signed k) None × IsFirstPlace named (Some i))
IsPreferredPlace named signed None = IsFirstPlace named None

-- ---- who may have issued a certificate

-- a key has signed a certificate (RFC 5280 6.1.3 (a) (1))
abbrev pub has_signed : Check → KeyInfo → Certificate → Bool
has_signed good key c = good c.signatureAlgorithm.whole (own_key key) c.tbs c.signatureValue

-- an anchor has the name of its issuer (6.1.3 (a) (4)), and its key has signed it
abbrev pub is_under : Option Certificate → Option TrustAnchor → Bool
is_under (Some c) (Some anchor) = is_same_name c.tbsCertificate.issuer anchor.name
is_under c anchor = false

abbrev pub is_signed_under : Check → Option Certificate → Option TrustAnchor → Bool
is_signed_under good (Some c) (Some anchor) = has_signed good anchor.key c
is_signed_under good c anchor = false

-- the key of another certificate has signed it
abbrev pub is_signed_by : Check → Option Certificate → Option Certificate → Bool
is_signed_by good (Some c) (Some above) =
    has_signed good above.tbsCertificate.subjectPublicKeyInfo c
is_signed_by good c above = false

-- ---- what is above the certificate at the place `top`

-- at the place a is an anchor that has the name of its issuer
abbrev pub is_anchored : List TrustAnchor → List Certificate → ℕ → ℕ → Bool
is_anchored anchors certificates top a =
    is_under (slice_get certificates top) (slice_get anchors a)

-- the first such anchor whose key has signed it; where none has, the first such anchor
abbrev pub IsAnchorAbove : Check → List TrustAnchor → List Certificate → ℕ → Option ℕ → Type 0
IsAnchorAbove good anchors certificates top place =
    IsPreferredPlace (is_anchored anchors certificates top)
    (λ a. is_signed_under good (slice_get certificates top) (slice_get anchors a)) place

-- at the place i, which is not used, is a certificate whose subject is its issuer
abbrev pub is_next : List Certificate → ℕ → List ℕ → ℕ → Bool
is_next certificates top used i =
    not (list_any (λ j. j == i) used) && issues certificates i top

-- the first such certificate whose key has signed it; where none has, the first such certificate
abbrev pub IsNextAbove : Check → List Certificate → ℕ → List ℕ → Option ℕ → Type 0
IsNextAbove good certificates top used place = IsPreferredPlace (is_next certificates top used)
    (λ i. is_signed_by good (slice_get certificates top) (slice_get certificates i)) place

-- ---- the chain

-- From the leaf the chain goes up, as long as no anchor has the name of the issuer: each time to
-- the certificate above that is not in the chain yet.
abbrev pub Climbs : Check → List TrustAnchor → List Certificate → List ℕ → Type 0
Climbs good anchors certificates [] = ⊥
Climbs good anchors certificates (top ∷ []) = top ≡ 0
Climbs good anchors certificates (i ∷ top ∷ below) =
    Climbs good anchors certificates (top ∷ below)
    × IsFirstPlace (is_anchored anchors certificates top) None
    × IsNextAbove good certificates top (top ∷ below) (Some i)

-- why nothing is above the top one: an anchor has the name of its issuer; or no certificate that is
-- not in the chain has it as its subject; or the chain has 16
abbrev pub HasTop : List TrustAnchor → List Certificate → List ℕ → Type 0
HasTop anchors certificates [] = ⊥
HasTop anchors certificates (top ∷ below) =
    ((a : ℕ) × (is_anchored anchors certificates top a ≡ true))
    ⊎ IsFirstPlace (is_next certificates top (top ∷ below)) None
    ⊎ (16 ≤ length (top ∷ below))

-- the anchor above the top one; the first of all, where none has the name of its issuer
abbrev pub IsAnchorPlace : Check → List TrustAnchor → List Certificate → List ℕ → ℕ → Type 0
IsAnchorPlace good anchors certificates [] place = ⊥
IsAnchorPlace good anchors certificates (top ∷ below) place =
    IsAnchorAbove good anchors certificates top (Some place)
    ⊎ ((place ≡ 0) × IsAnchorAbove good anchors certificates top None)

-- the chain by names, from the side of the anchor to the leaf, and the place of its anchor
pub record IsLine (good : Check) (anchors : List TrustAnchor) (certificates : List Certificate)
    (place : ℕ) (chain : List Certificate) : Type 0 where
  pub places : List ℕ
  pub climbs : Climbs good anchors certificates places
  pub has_top : HasTop anchors certificates places
  pub few : length places ≤ 16
  pub under : IsAnchorPlace good anchors certificates places place
  pub chain_is : chain ≡ certificates_at certificates places
