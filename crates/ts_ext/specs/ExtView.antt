-- What contracts see of the value of an extension that is borrowed.
use Rattle.ts_der.specs.BitsView.{bits_in}
use Rattle.ts_ext.specs.declared.ext.Ext.{Ext}
use Rattle.ts_ext.specs.declared.ext.Ext.TheVariants as borrowed
use Rattle.ts_ext.specs.View.{policies_in, mappings_in, purposes_in}
use Rattle.ts_ext.specs.NameViews.{alternatives_in, issuing_point_in, authority_key_in}
use Rattle.ts_ext.specs.NameViews.{name_constraints_in, points_in}
use Rattle.ts_ext.specs.Ext.{ExtValue, subjectKeyIdentifier, keyUsage, subjectAltName}
use Rattle.ts_ext.specs.Ext.{issuerAltName, basicConstraints, cRLNumber, reasonCode, invalidityDate}
use Rattle.ts_ext.specs.Ext.{deltaCRLIndicator, issuingDistributionPoint, certificateIssuer}
use Rattle.ts_ext.specs.Ext.{nameConstraints, cRLDistributionPoints, certificatePolicies}
use Rattle.ts_ext.specs.Ext.{policyMappings, authorityKeyIdentifier, policyConstraints, extKeyUsage}
use Rattle.ts_ext.specs.Ext.{freshestCRL, inhibitAnyPolicy, unknown}

abbrev pub ext_in : Ext → ExtValue
ext_in (borrowed.SubjectKeyIdentifier x) = subjectKeyIdentifier x.now
ext_in (borrowed.KeyUsage x) = keyUsage (bits_in x.bits)
ext_in (borrowed.SubjectAltName x) = subjectAltName (alternatives_in x)
ext_in (borrowed.IssuerAltName x) = issuerAltName (alternatives_in x)
ext_in (borrowed.BasicConstraints x) = basicConstraints x
ext_in (borrowed.CrlNumber x) = cRLNumber x.octets.now
ext_in (borrowed.ReasonCode x) = reasonCode x
ext_in (borrowed.InvalidityDate x) = invalidityDate x.seconds
ext_in (borrowed.DeltaCrlIndicator x) = deltaCRLIndicator x.octets.now
ext_in (borrowed.IssuingDistributionPoint x) = issuingDistributionPoint (issuing_point_in x)
ext_in (borrowed.CertificateIssuer x) = certificateIssuer (alternatives_in x)
ext_in (borrowed.NameConstraints x) = nameConstraints (name_constraints_in x)
ext_in (borrowed.CrlDistributionPoints x) = cRLDistributionPoints (points_in x)
ext_in (borrowed.CertificatePolicies x) = certificatePolicies (policies_in x)
ext_in (borrowed.PolicyMappings x) = policyMappings (mappings_in x)
ext_in (borrowed.AuthorityKeyIdentifier x) = authorityKeyIdentifier (authority_key_in x)
ext_in (borrowed.PolicyConstraints x) = policyConstraints x
ext_in (borrowed.ExtendedKeyUsage x) = extKeyUsage (purposes_in x)
ext_in (borrowed.FreshestCrl x) = freshestCRL (points_in x)
ext_in (borrowed.InhibitAnyPolicy x) = inhibitAnyPolicy x.0
ext_in (borrowed.Unknown octets) = unknown octets.now
