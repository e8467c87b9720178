-- The value of each extension, as it is read, encoded and refused.
use Rattle.std.proofs.Common.{◌≡◌, ℕ, List, Option, Some, None, Result, Ok, Err, refl, sym, ap, ◌∙◌}
use Rattle.ts_der.specs.declared.fault.Fault.{Fault}
use Rattle.ts_der.specs.Octets.{AreOctets}
use Rattle.ts_der.specs.Answer.{◌>>=◌}
use Rattle.ts_der.specs.Element.{Tlv}
use Rattle.ts_der.proofs.Laws.{bind_ok, ok_is}
use Rattle.ts_shape.specs.declared.fault.CertFault.{CertFault}
use Rattle.ts_shape.specs.Fault.{der}
use Rattle.ts_shape.specs.Items.{each}
use Rattle.ts_shape.specs.Shape.{Shape, ContentRules}
use Rattle.ts_shape.proofs.Parts.{Part}
use Rattle.ts_shape.proofs.Judging.{Judged, no_less, Whatever, Reads}
use Rattle.ts_shape.proofs.ItemParts.{tag-part, tag-reads, alone-found, alone-again, alone-judged}
use Rattle.ts_ext.specs.declared.known.Known.{Known}
use Rattle.ts_ext.specs.declared.known.Known.TheVariants as extension
use Rattle.ts_ext.specs.Ext.{ExtValue, subjectKeyIdentifier, keyUsage, subjectAltName}
use Rattle.ts_ext.specs.Ext.{issuerAltName, basicConstraints, cRLNumber, reasonCode, invalidityDate}
use Rattle.ts_ext.specs.Ext.{deltaCRLIndicator, issuingDistributionPoint, certificateIssuer}
use Rattle.ts_ext.specs.Ext.{nameConstraints, cRLDistributionPoints, certificatePolicies}
use Rattle.ts_ext.specs.Ext.{policyMappings, authorityKeyIdentifier, policyConstraints, extKeyUsage}
use Rattle.ts_ext.specs.Ext.{freshestCRL, inhibitAnyPolicy, unknown, As, IsContent, IsValue, IsExt}
use Rattle.ts_ext.specs.Ext.{read_as, content_of, value_of, ext_of, layout_of, value_row, ext_fault}
use Rattle.ts_ext.specs.Inner.{inner_fault}
use Rattle.ts_ext.proofs.Formats as formats
use Rattle.ts_ext.proofs.Formats.{Format}
use Rattle.ts_ext.proofs.Values.{crl_number-format, base_crl_number-format, small-format, reason_code-format, invalidity_date-format}
use Rattle.ts_ext.proofs.NamedBits.{key_usage-format}
use Rattle.ts_ext.proofs.Constraints.{basic_constraints-format, policy_constraints-format}
use Rattle.ts_ext.proofs.Policies.{certificate_policies-format, policy_mappings-format, ext_key_usage-format}
use Rattle.ts_ext.proofs.Names.{general_names-format}
use Rattle.ts_ext.proofs.Points.{points-format, issuing_point-format}
use Rattle.ts_ext.proofs.KeyAndConstraints.{octets-format, authority_key-format, name_constraints-format}

-- a format, in the form of one extension
formed : {A : Type 0} {value : Tlv → Result A Fault} {Is : List ℕ → A → Type 0} {shape : Shape} {rules : ContentRules} → Format value Is shape rules → (form : A → ExtValue)
    → Format (read_as value form) (As form Is) shape rules
formed {A} {value} {Is} {shape} {rules} format form = record { found = found; again = again; judged = λ e. kept (inner_fault shape rules e) (value e) (format.judged e) }
  where
    found : (e : Tlv) (y : ExtValue) → AreOctets e.content → read_as value form e ≡ Ok y → As form Is e.content y
    found e y fits read =
        let b = bind_ok (value e) (λ x. Ok (form x)) y read in
        (b.0, sym (ok_is {E = Fault} (form b.0) y b.2), format.found e b.0 fits b.1)

    again : (e : Tlv) (y : ExtValue) → As form Is e.content y → read_as value form e ≡ Ok y
    again e y is = ap (λ (r : Result A Fault). r >>= λ x. Ok (form x)) (format.again e is.0 is.2) ∙ ap (λ (z : ExtValue). Ok z) (sym is.1)

    kept : (o : Option CertFault) (r : Result A Fault) → Judged (der r) o (λ x. Unit {0}) → Judged (der (r >>= λ x. Ok (form x))) o (λ x. Unit {0})
    kept o (Ok x) j = (j.0, tt)
    kept o (Err f) j = j

-- each extension
content-format : (known : Known) → Format (content_of known) (IsContent known) (layout_of known).shape (layout_of known).rules
content-format extension.SubjectKeyIdentifier = formed octets-format (λ x. subjectKeyIdentifier x)
content-format extension.KeyUsage = formed key_usage-format (λ x. keyUsage x)
content-format extension.SubjectAltName = formed general_names-format (λ x. subjectAltName x)
content-format extension.IssuerAltName = formed general_names-format (λ x. issuerAltName x)
content-format extension.BasicConstraints = formed basic_constraints-format (λ x. basicConstraints x)
content-format extension.CrlNumber = formed crl_number-format (λ x. cRLNumber x)
content-format extension.ReasonCode = formed reason_code-format (λ x. reasonCode x)
content-format extension.InvalidityDate = formed invalidity_date-format (λ x. invalidityDate x)
content-format extension.DeltaCrlIndicator = formed base_crl_number-format (λ x. deltaCRLIndicator x)
content-format extension.IssuingDistributionPoint = formed issuing_point-format (λ x. issuingDistributionPoint x)
content-format extension.CertificateIssuer = formed general_names-format (λ x. certificateIssuer x)
content-format extension.NameConstraints = formed name_constraints-format (λ x. nameConstraints x)
content-format extension.CrlDistributionPoints = formed points-format (λ x. cRLDistributionPoints x)
content-format extension.CertificatePolicies = formed certificate_policies-format (λ x. certificatePolicies x)
content-format extension.PolicyMappings = formed policy_mappings-format (λ x. policyMappings x)
content-format extension.AuthorityKeyIdentifier = formed authority_key-format (λ x. authorityKeyIdentifier x)
content-format extension.PolicyConstraints = formed policy_constraints-format (λ x. policyConstraints x)
content-format extension.ExtendedKeyUsage = formed ext_key_usage-format (λ x. extKeyUsage x)
content-format extension.FreshestCrl = formed points-format (λ x. freshestCRL x)
content-format extension.InhibitAnyPolicy = formed small-format (λ x. inhibitAnyPolicy x)

value-part : (known : Known) → Part (each (value_of known)) (IsValue known)
value-part known = tag-part (layout_of known).tag (content_of known) (IsContent known) (formats.value_of (content-format known) (layout_of known).tag)

value-reads : (known : Known) → Reads (value_row known) (λ here. der (each (value_of known) here)) Whatever
value-reads known = tag-reads (layout_of known).tag (layout_of known).shape (layout_of known).rules (content_of known) Whatever (content-format known).judged

pub ext-found : (known : Option Known) (e : Tlv) (x : ExtValue) → AreOctets e.content → ext_of known e ≡ Ok x → IsExt known e.content x
unfolding ext_of
ext-found (Some known) e x fits read = alone-found (value_of known) (IsValue known) (value-part known) e x fits read
ext-found None e x fits read = sym (ok_is {E = Fault} (unknown e.content) x read)

pub ext-again : (known : Option Known) (e : Tlv) (x : ExtValue) → IsExt known e.content x → ext_of known e ≡ Ok x
unfolding ext_of
ext-again (Some known) e x is = alone-again (value_of known) (IsValue known) (value-part known) e x is
ext-again None e x is = ap (λ (y : ExtValue). Ok y) (sym is)

pub ext-judged : (known : Option Known) (e : Tlv) → Judged (der (ext_of known e)) (ext_fault known e) (λ x. Unit {0})
unfolding ext_of
ext-judged (Some known) e = no_less _ _ _ (alone-judged (value_row known) (value_of known) Whatever (λ octets. refl) (value-reads known) e)
ext-judged None e = (refl, tt)
