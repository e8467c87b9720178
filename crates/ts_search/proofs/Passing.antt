-- An anchor of another name.
use Rattle.std.proofs.Common.{◌≡◌, ◌∷◌, [], List, refl}
use Rattle.ts_name.specs.Sameness.{canon_name}
use Rattle.ts_cert.specs.Certificate.{Certificate}
use Rattle.ts_path.specs.Asked.{ValidationInputs}
use Rattle.ts_path.specs.Conditions.{Meets}
use Rattle.ts_reason.specs.Conditions.{issuer_name}
use Rattle.ts_path.specs.State.{state_at}
use Rattle.ts_path.specs.Verdict.{HoldsAt}
use Rattle.ts_search.specs.Search.{IsValidChain}

-- a chain whose first certificate has another issuer than the anchor is not valid
pub other-issuer : (asked : ValidationInputs) (chain rest : List Certificate) (first : Certificate) → chain ≡ first ∷ rest
    → ((canon_name first.tbsCertificate.issuer ≡ canon_name asked.anchor.name) → ⊥) → ¬ (IsValidChain (record { asked = asked; chain = chain }))
unfolding HoldsAt Meets state_at
other-issuer asked chain rest first is differs valid = differs (valid 1 issuer_name (record { above = []; certificate = first; below = rest }) (record { chain_is = is; position_is = refl }))
