-- What an X.509 certificate states of policies (RFC 5280, 4.2.1.4, 4.2.1.5), by the object
-- identifiers alone.
use Rattle.std.specs.Prelude.{List, [], Option, None, Some, option_map, map}
use Rattle.ts_ext.specs.declared.known.Known.TheVariants.{CertificatePolicies as certificatePolicies}
use Rattle.ts_ext.specs.declared.known.Known.TheVariants.{PolicyMappings as policyMappings}
use Rattle.ts_ext.specs.Policies.{Information, Mapping}
use Rattle.ts_ext.specs.Reading.{certificate_policies_of, policy_mappings_of}
use Rattle.ts_cert.specs.Certificate.{Tbs}
use Rattle.ts_cert.specs.Stated.{stated_value}
use Rattle.ts_policy.specs.Labels.{Label}

-- the policies of certificatePolicies, without their qualifiers
abbrev pub identifiers : List Information → List Label
identifiers xs = map (λ x. x.policyIdentifier) xs

-- the pairs of policyMappings
abbrev pub pairs : List Mapping → List (Label × Label)
pairs xs = map (λ x. (x.issuerDomainPolicy, x.subjectDomainPolicy)) xs

-- the pairs, none where the extension is absent
abbrev pub pairs_if_any : Option (List Mapping) → List (Label × Label)
pairs_if_any None = []
pairs_if_any (Some xs) = pairs xs

-- certificatePolicies of the certificate, if it is there
abbrev pub policies_of : Tbs → Option (List Label)
policies_of t = option_map identifiers (stated_value certificatePolicies certificate_policies_of t)

-- policyMappings of the certificate
abbrev pub mappings_of : Tbs → List (Label × Label)
mappings_of t = pairs_if_any (stated_value policyMappings policy_mappings_of t)
