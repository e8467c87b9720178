-- What contracts see of the parts of extensions that are borrowed: octets, without where they lie
-- in memory.
use Rattle.std.specs.Prelude.{ℕ, List, option_map}
use Rattle.ts_der.specs.Element.{inside}
use Rattle.ts_der.specs.View.{now}
use Rattle.ts_shape.specs.Items.{items_at}
use Rattle.ts_ext.specs.declared.policy_qualifier.PolicyQualifier.{PolicyQualifier}
use Rattle.ts_ext.specs.declared.policy_information.PolicyInformation.{PolicyInformation}
use Rattle.ts_ext.specs.declared.policy_mapping.PolicyMapping.{PolicyMapping}
use Rattle.ts_ext.specs.declared.certificate_policies.CertificatePolicies.{CertificatePolicies}
use Rattle.ts_ext.specs.declared.policy_mappings.PolicyMappings.{PolicyMappings}
use Rattle.ts_ext.specs.declared.extended_key_usage.ExtendedKeyUsage.{ExtendedKeyUsage}
use Rattle.ts_ext.specs.Policies.{Qualifier, Information, Mapping}
use Rattle.ts_ext.specs.Reading.{policy_qualifier_in, policy_information_in, policy_mapping_in}
use Rattle.ts_ext.specs.Reading.{key_purpose_in}

abbrev pub qualifier_in : PolicyQualifier → Qualifier
qualifier_in q = record { policyQualifierId = q.id.content.now; qualifier = q.qualifier.now }

abbrev pub information_in : PolicyInformation → Information
information_in p =
    record {
      policyIdentifier = p.policy_identifier.content.now;
      policyQualifiers = option_map (λ q. items_at policy_qualifier_in (inside (now q.element)))
          p.policy_qualifiers;
    }

abbrev pub mapping_in : PolicyMapping → Mapping
mapping_in m = record {
  issuerDomainPolicy = m.issuer_domain_policy.content.now;
  subjectDomainPolicy = m.subject_domain_policy.content.now;
}

-- ---- lists

abbrev pub policies_in : CertificatePolicies → List Information
policies_in p = items_at policy_information_in (inside (now p.list.element))

abbrev pub mappings_in : PolicyMappings → List Mapping
mappings_in m = items_at policy_mapping_in (inside (now m.list.element))

abbrev pub purposes_in : ExtendedKeyUsage → List (List ℕ)
purposes_in u = items_at key_purpose_in (inside (now u.list.element))
