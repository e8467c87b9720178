-- What is asked of a chain beside its certificates (RFC 5280 6.1.1).
use Rattle.std.specs.Prelude.{ℕ, Bool, ℤ, List, Option}
use Rattle.ts_name.specs.Canon.{Attr}
use Rattle.ts_cert.specs.Certificate.{KeyInfo}
use Rattle.ts_crl.specs.List.{CertificateList}
use Rattle.ts_constraint.specs.Source.{Source}
use Rattle.ts_policy.specs.Labels.{Label}
use Rattle.ts_revoke.specs.Question.{Check}

-- a trust anchor (6.1.1 (d)): its name, its public key, and the purposes that it is trusted for,
-- None where for any
pub record TrustAnchor : Type 0 where
  pub name : List (List Attr)
  pub key : KeyInfo
  pub purposes : Option (List (List ℕ))

-- the inputs of path validation beside the chain
pub record ValidationInputs : Type 0 where
  pub anchor : TrustAnchor
  -- the moment of the validation (6.1.1 (b))
  pub moment : ℤ
  -- the purpose that the target is to have, as the content of an OBJECT IDENTIFIER, if one is asked
  -- for
  pub purpose : Option (List ℕ)
  -- user-initial-policy-set (6.1.1 (c)); none stands for any policy
  pub user_policies : List Label
  -- initial-explicit-policy (f), initial-policy-mapping-inhibit (e), initial-any-policy-inhibit (g)
  pub explicit_policy : Bool
  pub inhibit_policy_mapping : Bool
  pub inhibit_any_policy : Bool
  -- initial-permitted-subtrees (h) and initial-excluded-subtrees (i)
  pub subtrees : Source
  -- whether a certificate whose status can't be determined is refused
  pub hard : Bool
  -- the complete CRLs and the delta CRLs at hand, each in order, and whether delta CRLs are used
  -- (6.3.1 (b))
  pub lists : List CertificateList
  pub deltas : List CertificateList
  pub use_deltas : Bool
  -- the check of a signature: by which algorithm, under which key, of which octets
  pub good : Check
