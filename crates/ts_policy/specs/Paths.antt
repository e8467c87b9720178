-- Certificate policies as sets of paths of labels (RFC 5280, 6.1.3 (d) and 6.1.4 (b)): no tree, no
-- parents, no pruning. T(i) are the paths of certificate i, and S(i) those after its mappings. A
-- list of certificates has the latest first.
use Rattle.std.specs.Prelude.{◌≡◌, ◌≢◌, ℕ, zero, suc, Bool, false, not, ◌&&◌, ◌||◌, nat_lt}
use Rattle.std.specs.Prelude.{if◌then◌else◌, List, [], ◌∷◌, map, filter, Option, Some, None, IsTrue}
use Rattle.std.specs.Prelude.{MatchBool, ◌⊎◌}
use Rattle.std.specs.List.{list_any}
use Rattle.ts_policy.specs.Labels.{Label, Path, any_policy, same, In, anys}

-- what certificate i states of policies, and the state variables at it (RFC 5280, 6.1.2)
pub record CertPolicies : Type 0 where
  -- the policyIdentifiers of certificatePolicies; None where the extension is absent
  pub policies : Option (List Label)
  -- the pairs of issuerDomainPolicy and subjectDomainPolicy of policyMappings
  pub mappings : List (Label × Label)
  pub self_issued : Bool
  -- i = n
  pub is_last : Bool
  pub inhibit_any_policy : ℕ
  pub policy_mapping : ℕ

-- the policies that a certificate states
abbrev pub policies_stated : CertPolicies → List Label
policies_stated c = elim c.policies [ None ↦ [] | Some ps ↦ ps ]

-- the certificate maps p
abbrev pub is_mapped : CertPolicies → Label → Bool
is_mapped c p = list_any (λ m. same m.0 p) c.mappings

-- what the certificate maps p to
abbrev pub targets : CertPolicies → Label → List Label
targets c p = map (λ m. m.1) (filter (λ m. same m.0 p) c.mappings)

-- the last label of a path; the empty path counts as ending in anyPolicy
abbrev pub end_of : Path → Label
end_of [] = any_policy
end_of (p ∷ w) = p

-- what a path that ends in p expects after the mappings of certificate c: anyPolicy for anyPolicy,
-- the targets of a mapped label, and else the label
abbrev pub expected_after : CertPolicies → Label → List Label
expected_after c p = if same p any_policy then any_policy ∷ [] else if is_mapped c p
    then targets c p else p ∷ []

-- what a path of S(i) that ends in p expects
abbrev pub expected : List CertPolicies → Label → List Label
expected [] p = p ∷ []
expected (c ∷ before) p = expected_after c p

-- (d)(2): inhibit_anyPolicy is above 0, or i < n and the certificate is self-issued
abbrev pub any_counts : CertPolicies → Bool
any_counts c = nat_lt 0 c.inhibit_any_policy || (not c.is_last && c.self_issued)

-- p may follow the path w of S(i-1)
abbrev pub MayFollow : CertPolicies → (Label → List Label) → (Path → Type 0) → Path → Label → Type 0
MayFollow c expects S w p =
    -- (d)(1)(i): p is stated, is not anyPolicy, and w expects it
    (In p (policies_stated c) × (p ≢ any_policy) × In p (expects (end_of w)))
    -- (d)(1)(ii): p is stated, is not anyPolicy, w ends in anyPolicy, and no path of S(i-1) expects
    -- p
    ⊎ ((In p (policies_stated c) × (p ≢ any_policy) × (end_of w ≡ any_policy)
    × ((v : Path) → S v → In p (expects (end_of v)) → ⊥))
    -- (d)(2): anyPolicy is stated and counts, and w expects p
    ⊎ (In any_policy (policies_stated c) × IsTrue (any_counts c) × In p (expects (end_of w))))

-- T(i), from S(i-1) and what its paths expect
abbrev pub Taken : CertPolicies → (Label → List Label) → (Path → Type 0) → Path → Type 0
Taken c expects S [] = ⊥
Taken c expects S (p ∷ w) = S w × MayFollow c expects S w p

-- 6.1.4 (b)(1), where no node has the label p: p is mapped and ends no path of T(k + 1), which has
-- k + 1 times anyPolicy; the path added is k times anyPolicy and p
abbrev pub Added : CertPolicies → ℕ → (Path → Type 0) → Path → Type 0
Added c k T [] = ⊥
Added c k T (p ∷ w) = (w ≡ anys k) × IsTrue (is_mapped c p) × T (any_policy ∷ w)
    × ((v : Path) → T v → end_of v ≢ p)

-- S(k + 1), from T(k + 1): (b)(1) where policy_mapping is above 0, and else (b)(2), by which mapped
-- labels go
abbrev pub Mapped : CertPolicies → ℕ → (Path → Type 0) → Path → Type 0
Mapped c k T w = MatchBool (nat_lt 0 c.policy_mapping) (T w ⊎ Added c k T w)
    (T w × (is_mapped c (end_of w) ≡ false))

-- the number of certificates
abbrev pub count : List CertPolicies → ℕ
count [] = zero
count (c ∷ cs) = suc (count cs)

-- S(i); S(0) has the empty path alone
abbrev pub InS : List CertPolicies → Path → Type 0
InS [] w = w ≡ []
InS (c ∷ before) w = Mapped c (count before) (Taken c (expected before) (InS before)) w

-- T(i)
abbrev pub InT : List CertPolicies → Path → Type 0
InT [] w = w ≡ []
InT (c ∷ before) w = Taken c (expected before) (InS before) w

-- no mapping names anyPolicy (RFC 5280, 6.1.4 (a))
abbrev pub MapsNoAny : CertPolicies → Type 0
MapsNoAny c = (p q : Label) → In (p, q) c.mappings → (p ≢ any_policy) × (q ≢ any_policy)

-- nor does one of these certificates
abbrev pub NoneMapsAny : List CertPolicies → Type 0
NoneMapsAny [] = Unit {0}
NoneMapsAny (c ∷ cs) = MapsNoAny c × NoneMapsAny cs

-- nor does the latest
abbrev pub LatestMapsNoAny : List CertPolicies → Type 0
LatestMapsNoAny [] = Unit {0}
LatestMapsNoAny (c ∷ cs) = MapsNoAny c
