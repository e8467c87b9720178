-- What contracts see of the certificates that a caller hands in: octets, without where they lie in
-- memory.
use Rattle.std.specs.Prelude.{Bool, ◌||◌, List, option_map, map}
use Rattle.std.specs.List.{list_any}
use Rattle.ts_policy.specs.declared.certificate.Certificate.{Certificate}
use Rattle.ts_policy.specs.declared.certificate.Mapping.{Mapping}
use Rattle.ts_policy.specs.Labels.{Label, same, any_policy}
use Rattle.ts_policy.specs.Paths.{CertPolicies}

-- issuerDomainPolicy and subjectDomainPolicy
abbrev pub mapping_in : Mapping → Label × Label
mapping_in m = (m.issuer_domain.content.now, m.subject_domain.content.now)

-- what the certificate states of policies
abbrev pub policies_in : Certificate → CertPolicies
policies_in c = record {
  policies = option_map (λ v. map (λ p. p.content.now) v.items) c.policies;
  mappings = map mapping_in c.mappings.items;
  self_issued = c.self_issued;
  is_last = c.is_last;
  inhibit_any_policy = c.inhibit_any_policy;
  policy_mapping = c.policy_mapping;
}

-- a mapping names anyPolicy
abbrev pub maps_any_of : List Mapping → Bool
maps_any_of ms = list_any (λ m. same m.issuer_domain.content.now any_policy
    || same m.subject_domain.content.now any_policy) ms

-- the same for the pairs
abbrev pub maps_any : CertPolicies → Bool
maps_any c = list_any (λ m. same m.0 any_policy || same m.1 any_policy) c.mappings
