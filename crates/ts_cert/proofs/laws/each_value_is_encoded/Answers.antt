use Rattle.std.proofs.Common.{refl}
use Rattle.ts_ext.specs.declared.known.Known.TheVariants as extension
use Rattle.ts_ext.specs.Ext.{authorityKeyIdentifier, subjectKeyIdentifier, keyUsage}
use Rattle.ts_ext.specs.Ext.{certificatePolicies, policyMappings, subjectAltName, issuerAltName}
use Rattle.ts_ext.specs.Ext.{basicConstraints, nameConstraints, policyConstraints, extKeyUsage}
use Rattle.ts_ext.specs.Ext.{cRLDistributionPoints, inhibitAnyPolicy, freshestCRL}
use Rattle.ts_ext.specs.Known.{known_at, certificate_extension}
use Rattle.ts_ext.proofs.Constraints.{basic_constraints-format, policy_constraints-format}
use Rattle.ts_ext.proofs.KeyAndConstraints.{authority_key-format, name_constraints-format, octets-format}
use Rattle.ts_ext.proofs.NamedBits.{key_usage-format}
use Rattle.ts_ext.proofs.Names.{general_names-format}
use Rattle.ts_ext.proofs.Points.{points-format}
use Rattle.ts_ext.proofs.Policies.{certificate_policies-format, policy_mappings-format, ext_key_usage-format}
use Rattle.ts_ext.proofs.Values.{small-format}
use Rattle.ts_cert.proofs.EncodedValues.{encoded}
use Rattle.ts_cert.proofs.laws.each_value_is_encoded.Goals as goal

pub returns-clause-authority_key_identifier : goal.returns-clause-authority_key_identifier
unfolding known_at certificate_extension
returns-clause-authority_key_identifier c = encoded authority_key-format extension.AuthorityKeyIdentifier (λ x. authorityKeyIdentifier x) refl (λ o v is. is)

pub returns-clause-subject_key_identifier : goal.returns-clause-subject_key_identifier
unfolding known_at certificate_extension
returns-clause-subject_key_identifier c = encoded octets-format extension.SubjectKeyIdentifier (λ x. subjectKeyIdentifier x) refl (λ o v is. is)

pub returns-clause-key_usage : goal.returns-clause-key_usage
unfolding known_at certificate_extension
returns-clause-key_usage c = encoded key_usage-format extension.KeyUsage (λ x. keyUsage x) refl (λ o v is. is)

pub returns-clause-certificate_policies : goal.returns-clause-certificate_policies
unfolding known_at certificate_extension
returns-clause-certificate_policies c = encoded certificate_policies-format extension.CertificatePolicies (λ x. certificatePolicies x) refl (λ o v is. is)

pub returns-clause-policy_mappings : goal.returns-clause-policy_mappings
unfolding known_at certificate_extension
returns-clause-policy_mappings c = encoded policy_mappings-format extension.PolicyMappings (λ x. policyMappings x) refl (λ o v is. is)

pub returns-clause-subject_alt_name : goal.returns-clause-subject_alt_name
unfolding known_at certificate_extension
returns-clause-subject_alt_name c = encoded general_names-format extension.SubjectAltName (λ x. subjectAltName x) refl (λ o v is. is)

pub returns-clause-issuer_alt_name : goal.returns-clause-issuer_alt_name
unfolding known_at certificate_extension
returns-clause-issuer_alt_name c = encoded general_names-format extension.IssuerAltName (λ x. issuerAltName x) refl (λ o v is. is)

pub returns-clause-basic_constraints : goal.returns-clause-basic_constraints
unfolding known_at certificate_extension
returns-clause-basic_constraints c = encoded basic_constraints-format extension.BasicConstraints (λ x. basicConstraints x) refl (λ o v is. is)

pub returns-clause-name_constraints : goal.returns-clause-name_constraints
unfolding known_at certificate_extension
returns-clause-name_constraints c = encoded name_constraints-format extension.NameConstraints (λ x. nameConstraints x) refl (λ o v is. is)

pub returns-clause-policy_constraints : goal.returns-clause-policy_constraints
unfolding known_at certificate_extension
returns-clause-policy_constraints c = encoded policy_constraints-format extension.PolicyConstraints (λ x. policyConstraints x) refl (λ o v is. is)

pub returns-clause-extended_key_usage : goal.returns-clause-extended_key_usage
unfolding known_at certificate_extension
returns-clause-extended_key_usage c = encoded ext_key_usage-format extension.ExtendedKeyUsage (λ x. extKeyUsage x) refl (λ o v is. is)

pub returns-clause-crl_distribution_points : goal.returns-clause-crl_distribution_points
unfolding known_at certificate_extension
returns-clause-crl_distribution_points c = encoded points-format extension.CrlDistributionPoints (λ x. cRLDistributionPoints x) refl (λ o v is. is)

pub returns-clause-inhibit_any_policy : goal.returns-clause-inhibit_any_policy
unfolding known_at certificate_extension
returns-clause-inhibit_any_policy c = encoded small-format extension.InhibitAnyPolicy (λ x. inhibitAnyPolicy x) refl (λ o v is. is)

pub returns-clause-freshest_crl : goal.returns-clause-freshest_crl
unfolding known_at certificate_extension
returns-clause-freshest_crl c = encoded points-format extension.FreshestCrl (λ x. freshestCRL x) refl (λ o v is. is)
