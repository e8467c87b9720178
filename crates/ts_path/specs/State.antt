-- The state variables of path validation (RFC 5280 6.1.2) at a certificate, each as a statement
-- about the certificates above it.
use Rattle.std.specs.Prelude.{ℕ, suc, Bool, false, List, [], ◌∷◌, ◌++◌, length, Option}
use Rattle.std.specs.Prelude.{None, if◌then◌else◌}
use Rattle.ts_name.specs.Canon.{Attr}
use Rattle.ts_sig.specs.Key.{Key}
use Rattle.ts_ext.specs.declared.known.Known.TheVariants as extension
use Rattle.ts_ext.specs.Reading.{key_usage_of}
use Rattle.ts_cert.specs.Certificate.{Certificate}
use Rattle.ts_cert.specs.Stated.{stated_value}
use Rattle.ts_constraint.specs.Source.{Source, source_of}
use Rattle.ts_policy.specs.Paths.{CertPolicies}
use Rattle.ts_policy.specs.Stated.{policies_of, mappings_of}
use Rattle.ts_path.specs.declared.counters.Counters.{Counters}
use Rattle.ts_path.specs.Asked.{ValidationInputs, TrustAnchor}
use Rattle.ts_path.specs.Names.{is_self_issued}
use Rattle.ts_path.specs.Counters.{counter}
use Rattle.ts_path.specs.Extensions.{path_length_of, explicit_policy_of, inhibit_policy_mapping_of}
use Rattle.ts_path.specs.Extensions.{any_policy_of}
use Rattle.ts_path.specs.WorkingKey.{working_key}

pub record PathState : Type 0 where
  -- how many certificates are above
  pub passed : ℕ
  -- working_issuer_name (j)
  pub name : List (List Attr)
  -- working_public_key_algorithm, working_public_key and working_public_key_parameters (g) to (i)
  pub key : Key
  -- keyUsage of the certificate before, if it states one; that of an anchor is not looked at
  pub usage : Option (List Bool)
  -- permitted_subtrees and excluded_subtrees (b), (c), by the sources of which they are made
  pub sources : List Source
  -- explicit_policy (d), policy_mapping (f), inhibit_anyPolicy (e), max_path_length (k)
  pub counters : Counters

-- the subject of the certificate before, or of the anchor
abbrev pub name_above : TrustAnchor → List Certificate → List (List Attr)
name_above anchor [] = anchor.name
name_above anchor (c ∷ above) = c.tbsCertificate.subject

abbrev pub usage_above : List Certificate → Option (List Bool)
usage_above [] = None
usage_above (c ∷ above) = stated_value extension.KeyUsage key_usage_of c.tbsCertificate

-- the initial subtrees, and then what each certificate above asks, from the anchor's side
abbrev pub sources_above : Source → List Certificate → List Source
sources_above initial [] = initial ∷ []
sources_above initial (c ∷ above) = sources_above initial above ++ source_of c.tbsCertificate ∷ []

-- where a counter of policies starts, in a chain of n certificates: at 0 if the flag is set, else
-- where it can't reach 0 (6.1.2 (d) to (f))
abbrev pub start : ℕ → Bool → ℕ
start n flag = if flag then 0 else suc n

-- the counters in a chain of n certificates, at the certificate below these
unfoldable pub counters_at : ValidationInputs → ℕ → List Certificate → Counters
counters_at a n above = record {
  explicit_policy = counter (λ c. explicit_policy_of c.tbsCertificate)
      (start n a.explicit_policy) above;
  policy_mapping = counter (λ c. inhibit_policy_mapping_of c.tbsCertificate)
      (start n a.inhibit_policy_mapping) above;
  inhibit_any_policy = counter (λ c. any_policy_of c.tbsCertificate)
      (start n a.inhibit_any_policy) above;
  max_path_length = counter (λ c. path_length_of c.tbsCertificate) n above;
}

-- all of them
unfoldable pub state_at : ValidationInputs → ℕ → List Certificate → PathState
state_at a n above = record {
  passed = length above;
  name = name_above a.anchor above;
  key = working_key a.anchor above;
  usage = usage_above above;
  sources = sources_above a.subtrees above;
  counters = counters_at a n above;
}

-- what a certificate states of policies, with the state variables at it
abbrev pub policies_at : PathState → Certificate → Bool → CertPolicies
policies_at s c last = record {
  policies = policies_of c.tbsCertificate;
  mappings = mappings_of c.tbsCertificate;
  self_issued = is_self_issued c;
  is_last = last;
  inhibit_any_policy = s.counters.inhibit_any_policy;
  policy_mapping = s.counters.policy_mapping;
}

-- that of certificates above another, the nearest first, none of which is the last
unfoldable pub policies_above : ValidationInputs → ℕ → List Certificate → List CertPolicies
policies_above a n [] = []
policies_above a n (c ∷ above) = policies_at (state_at a n above) c false ∷ policies_above a n above
