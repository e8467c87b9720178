-- The chains that a search tries. Each is a list of places from the anchor's side: the certificate
-- searched for, the leaf, has place 0 and is last; the certificates of the pool have the places 1,
-- 2 and so on.
use Rattle.std.specs.Prelude.{◌≡◌, ◌≤◌, ◌<◌, ◌⊎◌, ℕ, Bool, false, ◌==◌, List, [], ◌∷◌, length}
use Rattle.std.specs.Prelude.{Option, Some, slice_get, IsTrue}
use Rattle.std.specs.List.{list_any, AllByRecursion}
use Rattle.ts_name.specs.Sameness.{is_same_name}
use Rattle.ts_cert.specs.Certificate.{Certificate}
use Rattle.ts_policy.specs.Labels.{In}

-- the issuer of a certificate has the name of another's subject (RFC 5280 6.1.3 (a) (4))
abbrev pub is_issued_by : Option Certificate → Option Certificate → Bool
is_issued_by (Some c) (Some above) = is_same_name c.tbsCertificate.issuer
    above.tbsCertificate.subject
is_issued_by c above = false

-- by places, the first certificate's subject is the second's issuer
unfoldable pub issues : List Certificate → ℕ → ℕ → Bool
issues certificates i j = is_issued_by (slice_get certificates j) (slice_get certificates i)

-- each certificate's issuer is the subject of the one before it
abbrev pub AreLinked : (ℕ → ℕ → Bool) → List ℕ → Type 0
AreLinked issues [] = Unit {0}
AreLinked issues (i ∷ []) = Unit {0}
AreLinked issues (i ∷ j ∷ below) = IsTrue (issues i j) × AreLinked issues (j ∷ below)

-- no place occurs twice
abbrev pub AreDistinct : List ℕ → Type 0
AreDistinct [] = Unit {0}
AreDistinct (i ∷ below) = (list_any (λ j. j == i) below ≡ false) × AreDistinct below

-- the last place is 0
abbrev pub EndsAtLeaf : List ℕ → Type 0
EndsAtLeaf [] = ⊥
EndsAtLeaf (i ∷ []) = i ≡ 0
EndsAtLeaf (i ∷ j ∷ below) = EndsAtLeaf (j ∷ below)

-- a chain of at most ten of so many certificates, each once, the leaf last
pub record IsCandidate (issues : ℕ → ℕ → Bool) (count : ℕ) (chain : List ℕ) : Type 0 where
  pub few : length chain ≤ 10
  pub within : AllByRecursion (λ i. i < count) chain
  pub distinct : AreDistinct chain
  pub leaf : EndsAtLeaf chain
  pub linked : AreLinked issues chain

-- of two chains of one length, the one whose place is the lesser where they first differ, from the
-- leaf up
abbrev pub IsLesser : List ℕ → List ℕ → Type 0
IsLesser [] d = ⊥
IsLesser (i ∷ c) [] = ⊥
IsLesser (i ∷ c) (j ∷ d) = IsLesser c d ⊎ ((c ≡ d) × (i < j))

-- shorter chains come first
abbrev pub IsEarlier : List ℕ → List ℕ → Type 0
IsEarlier c d = (length c < length d) ⊎ ((length c ≡ length d) × IsLesser c d)

-- each precedes all after it
abbrev pub AreInOrder : List (List ℕ) → Type 0
AreInOrder [] = Unit {0}
AreInOrder (c ∷ cs) = AllByRecursion (IsEarlier c) cs × AreInOrder cs

-- these are all candidates, in order
pub record AreCandidates (issues : ℕ → ℕ → Bool) (count : ℕ) (cs : List (List ℕ)) : Type 0 where
  pub ordered : AreInOrder cs
  pub only : AllByRecursion (IsCandidate issues count) cs
  pub all : (c : List ℕ) → IsCandidate issues count c → In c cs
