-- The search for a chain: the first candidate, of the first 4,096, that is valid under an anchor;
-- each is tried under the anchors in their order.
use Rattle.std.specs.Prelude.{◌≡◌, ◌≤◌, ◌<◌, ℕ, List, [], ◌∷◌, ◌++◌, length, take, map, Option}
use Rattle.std.specs.Prelude.{Some, None, slice_get}
use Rattle.std.specs.List.{AllByRecursion}
use Rattle.ts_cert.specs.Certificate.{Certificate}
use Rattle.ts_policy.specs.Labels.{Label}
use Rattle.ts_path.specs.Asked.{TrustAnchor, ValidationInputs}
use Rattle.ts_path.specs.Chain.{ChainQuestion}
use Rattle.ts_reason.specs.Conditions.{Condition}
use Rattle.ts_path.specs.Verdict.{HoldsAt, AreAccepted}
use Rattle.ts_search.specs.Candidates.{issues, AreCandidates}
use Rattle.ts_search.specs.declared.answer.SearchAnswer.{SearchAnswer}
use Rattle.ts_search.specs.declared.answer.SearchAnswer.TheVariants.{Found, NoPath, SearchLimit}

-- ---- a chain under anchors

abbrev pub question : (TrustAnchor → ValidationInputs) → List Certificate → TrustAnchor
    → ChainQuestion
question asked chain anchor = record { asked = asked anchor; chain = chain }

-- no condition fails (RFC 5280 6.1)
abbrev pub IsValidChain : ChainQuestion → Type 0
IsValidChain q = (i : ℕ) (k : Condition) → HoldsAt k q i

-- under none of these anchors is the chain valid
abbrev pub NoneUnder : (TrustAnchor → ValidationInputs) → List Certificate → List TrustAnchor
    → Type 0
NoneUnder asked chain anchors = AllByRecursion
    (λ anchor. ¬ (IsValidChain (question asked chain anchor))) anchors

-- the anchor of this number, counted from 0, is the first under which the chain is valid, with
-- these policies
pub record IsFirstUnder (asked : TrustAnchor → ValidationInputs) (chain : List Certificate)
    (anchors : List TrustAnchor) (number : ℕ) (policies : List Label) : Type 0 where
  pub earlier : List TrustAnchor
  pub anchor : TrustAnchor
  pub later : List TrustAnchor
  pub anchors_are : anchors ≡ earlier ++ anchor ∷ later
  pub number_is : number ≡ length earlier
  pub none_earlier : NoneUnder asked chain earlier
  pub valid : IsValidChain (question asked chain anchor)
  pub accepted : AreAccepted (question asked chain anchor) policies

-- ---- candidates in their order

-- what is searched: the leaf and the pool after it, the trust anchors in their order, and what is
-- asked of a chain under an anchor
pub record Search : Type 0 where
  pub certificates : List Certificate
  pub anchors : List TrustAnchor
  pub asked : TrustAnchor → ValidationInputs

-- the certificates at these places
abbrev pub with_certificate : Option Certificate → List Certificate → List Certificate
with_certificate None below = below
with_certificate (Some c) below = c ∷ below

abbrev pub certificates_at : List Certificate → List ℕ → List Certificate
certificates_at certificates [] = []
certificates_at certificates (i ∷ below) =
    with_certificate (slice_get certificates i) (certificates_at certificates below)

-- none of these chains is valid under any anchor
abbrev pub NoneOf : Search → List (List ℕ) → Type 0
NoneOf s chains = AllByRecursion
    (λ chain. NoneUnder s.asked (certificates_at s.certificates chain) s.anchors) chains

-- the chain is the first of these that is valid, and the anchor of this number the first under
-- which it is
pub record IsFirstChain (s : Search) (tried : List (List ℕ)) (number : ℕ) (chain : List ℕ)
    (policies : List Label) : Type 0 where
  pub before : List (List ℕ)
  pub after : List (List ℕ)
  pub tried_are : tried ≡ before ++ chain ∷ after
  pub none_before : NoneOf s before
  pub under : IsFirstUnder s.asked (certificates_at s.certificates chain) s.anchors number policies

-- the most candidates that are tried
abbrev pub most : ℕ
most = 4096

-- the answer, where these are all candidates in their order
abbrev pub Answers : Search → List (List ℕ) → SearchAnswer → Type 0
Answers s candidates (Found number chain policies) =
    IsFirstChain s (take most candidates) number chain.items
    (map (λ p. p.content.now) policies.items)
Answers s candidates NoPath = (length candidates ≤ most) × NoneOf s candidates
Answers s candidates SearchLimit = (most < length candidates) × NoneOf s (take most candidates)

pub record IsSearchAnswer (s : Search) (answer : SearchAnswer) : Type 0 where
  pub candidates : List (List ℕ)
  pub are_candidates : AreCandidates (issues s.certificates) (length s.certificates) candidates
  pub answers : Answers s candidates answer

-- two answers say the same
abbrev pub IsSame : SearchAnswer → SearchAnswer → Type 0
IsSame (Found number chain policies) (Found other another others) =
    (number ≡ other) × (chain.items ≡ another.items)
    × (map (λ p. p.content.now) policies.items ≡ map (λ p. p.content.now) others.items)
IsSame NoPath NoPath = Unit {0}
IsSame SearchLimit SearchLimit = Unit {0}
IsSame answer other = ⊥
