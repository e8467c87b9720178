-- What each reader of a value answers is what a certificate states by its extension.
use Rattle.ts_der.specs.BitsView.{bits_in}
use Rattle.ts_ext.specs.declared.key_usage.KeyUsage.{KeyUsage}
use Rattle.ts_ext.specs.declared.known.Known.TheVariants as extension
use Rattle.ts_ext.specs.declared.skip_certs.SkipCerts.{SkipCerts}
use Rattle.ts_ext.specs.AuthorityKey.{authority_key_of}
use Rattle.ts_ext.specs.GeneralNames.{general_names_of}
use Rattle.ts_ext.specs.NameConstraints.{name_constraints_of}
use Rattle.ts_ext.specs.NameViews.{alternatives_in, authority_key_in, name_constraints_in, points_in}
use Rattle.ts_ext.specs.Points.{points_of}
use Rattle.ts_ext.specs.Reading.{key_usage_of, basic_constraints_of, certificate_policies_of, policy_mappings_of, policy_constraints_of, ext_key_usage_of, skip_certs_of}
use Rattle.ts_ext.specs.View.{policies_in, mappings_in, purposes_in}
use Rattle.ts_ext.proofs.Constraints.{basic_constraints-format, policy_constraints-format}
use Rattle.ts_ext.proofs.KeyAndConstraints.{authority_key-format, name_constraints-format}
use Rattle.ts_ext.proofs.NamedBits.{key_usage-format}
use Rattle.ts_ext.proofs.Names.{general_names-format}
use Rattle.ts_ext.proofs.Points.{points-format}
use Rattle.ts_ext.proofs.Policies.{certificate_policies-format, policy_mappings-format, ext_key_usage-format}
use Rattle.ts_ext.proofs.Values.{small-format}
use Rattle.ts_cert.proofs.StatedValues.{AnswersStated, answers-stated, AnswersItself, answers-itself}

pub authority_key_identifier : AnswersStated extension.AuthorityKeyIdentifier authority_key_of authority_key_in
authority_key_identifier = answers-stated authority_key-format extension.AuthorityKeyIdentifier authority_key_in

pub key_usage : AnswersStated extension.KeyUsage key_usage_of (λ (u : KeyUsage). bits_in u.bits)
key_usage = answers-stated key_usage-format extension.KeyUsage (λ (u : KeyUsage). bits_in u.bits)

pub certificate_policies : AnswersStated extension.CertificatePolicies certificate_policies_of policies_in
certificate_policies = answers-stated certificate_policies-format extension.CertificatePolicies policies_in

pub policy_mappings : AnswersStated extension.PolicyMappings policy_mappings_of mappings_in
policy_mappings = answers-stated policy_mappings-format extension.PolicyMappings mappings_in

pub subject_alt_name : AnswersStated extension.SubjectAltName general_names_of alternatives_in
subject_alt_name = answers-stated general_names-format extension.SubjectAltName alternatives_in

pub issuer_alt_name : AnswersStated extension.IssuerAltName general_names_of alternatives_in
issuer_alt_name = answers-stated general_names-format extension.IssuerAltName alternatives_in

pub basic_constraints : AnswersItself extension.BasicConstraints basic_constraints_of
basic_constraints = answers-itself basic_constraints-format extension.BasicConstraints

pub name_constraints : AnswersStated extension.NameConstraints name_constraints_of name_constraints_in
name_constraints = answers-stated name_constraints-format extension.NameConstraints name_constraints_in

pub policy_constraints : AnswersItself extension.PolicyConstraints policy_constraints_of
policy_constraints = answers-itself policy_constraints-format extension.PolicyConstraints

pub extended_key_usage : AnswersStated extension.ExtendedKeyUsage ext_key_usage_of purposes_in
extended_key_usage = answers-stated ext_key_usage-format extension.ExtendedKeyUsage purposes_in

pub crl_distribution_points : AnswersStated extension.CrlDistributionPoints points_of points_in
crl_distribution_points = answers-stated points-format extension.CrlDistributionPoints points_in

pub inhibit_any_policy : AnswersStated extension.InhibitAnyPolicy skip_certs_of (λ (n : SkipCerts). n.0)
inhibit_any_policy = answers-stated small-format extension.InhibitAnyPolicy (λ (n : SkipCerts). n.0)

pub freshest_crl : AnswersStated extension.FreshestCrl points_of points_in
freshest_crl = answers-stated points-format extension.FreshestCrl points_in
