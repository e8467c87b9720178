-- What the trial of chains says.
use Rattle.std.specs.Prelude.{◌≤◌, ℕ, List, length, map, Option, Some, None, Vec}
use Rattle.std.specs.declared.alloc.Global.{Global}
use Rattle.std.specs.List.{AllByRecursion}
use Rattle.ts_der.specs.declared.oid.OidRef.{OidRef}
use Rattle.ts_cert.specs.Certificate.{Certificate}
use Rattle.ts_path.specs.Asked.{TrustAnchor, ValidationInputs}
use Rattle.ts_path.specs.Chain.{ChainQuestion}
use Rattle.ts_path.specs.Verdict.{AreAccepted}
use Rattle.ts_search.specs.Search.{Search, certificates_at, NoneUnder, IsFirstUnder, NoneOf}
use Rattle.ts_search.specs.Search.{IsValidChain}
use Rattle.ts_search.specs.Search.{IsFirstChain}
use Rattle.ts_search.specs.declared.trial.Success.{Success}
use Rattle.ts_search.specs.declared.answer.SearchAnswer.{SearchAnswer}
use Rattle.ts_search.specs.declared.answer.SearchAnswer.TheVariants.{Found, NoPath, SearchLimit}

-- path validation takes the chain
abbrev pub IsTriable : List Certificate → List ℕ → Type 0
IsTriable certificates chain = (1 ≤ length (certificates_at certificates chain))
    × (length (certificates_at certificates chain) ≤ 16)

abbrev pub AreTriable : List Certificate → List (List ℕ) → Type 0
AreTriable certificates chains = AllByRecursion (IsTriable certificates) chains

-- a question is valid, and these are the policies that are accepted, or it is not
abbrev pub ValidOrNot : ChainQuestion → Option (Vec OidRef Global) → Type 0
ValidOrNot q None = ¬ (IsValidChain q)
ValidOrNot q (Some policies) = IsValidChain q × AreAccepted
    q (map (λ p. p.content.now) policies.items)

-- the first anchor under which the chain is valid, or there is none
abbrev pub FirstOrNone : (TrustAnchor → ValidationInputs) → List Certificate → List TrustAnchor
    → Option Success → Type 0
FirstOrNone asked chain anchors None = NoneUnder asked chain anchors
FirstOrNone asked chain anchors (Some found) =
    IsFirstUnder asked chain anchors found.anchor (map (λ p. p.content.now) found.policies.items)

-- the first chain that is valid, or there is none
abbrev pub FirstOf : Search → List (List ℕ) → Option SearchAnswer → Type 0
FirstOf s chains None = NoneOf s chains
FirstOf s chains (Some (Found number chain policies)) =
    IsFirstChain s chains number chain.items (map (λ p. p.content.now) policies.items)
FirstOf s chains (Some NoPath) = ⊥
FirstOf s chains (Some SearchLimit) = ⊥
