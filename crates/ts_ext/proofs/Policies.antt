-- Policies, mappings and purposes, as they are read, encoded and refused.
use Rattle.std.proofs.Common.{◌≡◌, ℕ, ◌+◌, Bool, true, false, not, cond, List, [], ◌++◌, length, Some, None, Result, Ok, Err, refl, sym, ap, subst, ◌∙◌}
use Rattle.std.proofs.lemmas.List.{append-nil}
use Rattle.ts_der.specs.declared.fault.DerFault.TheVariants.{OidForm}
use Rattle.ts_der.specs.declared.fault.Fault.{Fault}
use Rattle.ts_shape.specs.declared.fault.CertFault.{CertFault}
use Rattle.ts_der.specs.Answer.{◌>>=◌}
use Rattle.ts_der.specs.Octets.{AreOctets}
use Rattle.ts_der.specs.Element.{Place, Tlv, inside}
use Rattle.ts_der.specs.ObjectIdentifier.{is_oid, oid_rules}
use Rattle.ts_der.specs.Reading.{value_at, next_at, end_at, behind}
use Rattle.ts_der.proofs.Elements.{next-found}
use Rattle.ts_der.proofs.Laws.{bind_ok, ok_is, next-only}
use Rattle.ts_shape.specs.Fault.{der}
use Rattle.ts_shape.specs.Fields.{IsAny, IsOid, oid_at, optional_of}
use Rattle.ts_shape.specs.Items.{some_of}
use Rattle.ts_shape.specs.Rows.{object_identifier}
use Rattle.ts_shape.specs.Shape.{any, optional, items, plain, nothing, ◌then◌, judge, no_rules, der_rules}
use Rattle.ts_shape.proofs.FieldParts.{oid-part}
use Rattle.ts_shape.proofs.Judging.{Judged, no_more, under, ends, then-judged, next-judged, oid-reads, Whatever}
use Rattle.ts_shape.proofs.OptionalParts.{optional-found, optional-again, optional-judged}
use Rattle.ts_shape.proofs.Parts.{took}
use Rattle.ts_shape.proofs.Endings.{end-ok, end-again}
use Rattle.ts_ext.specs.Policies.{Qualifier, Information, Mapping}
use Rattle.ts_ext.specs.Encoding.{IsPolicyQualifier, ArePolicyQualifiers, IsPolicyInformation, AreCertificatePolicies, IsPolicyMapping, ArePolicyMappings, AreKeyPurposes}
use Rattle.ts_ext.specs.Table.{policy_qualifier_info, policy_qualifiers, list_rules, certificate_policies, policy_mappings, ext_key_usage}
use Rattle.ts_ext.specs.Reading.{policy_qualifier_of, policy_qualifier_in, policy_information_of, certificate_policies_of, policy_mapping_of, policy_mappings_of, ext_key_usage_of}
use Rattle.ts_ext.proofs.Formats.{Format, by_der_rules, value_of}
use Rattle.ts_ext.proofs.Lists.{list-format}

-- ---- qualifiers

qualifier-found : (e : Tlv) (q : Qualifier) → AreOctets e.content → policy_qualifier_of e ≡ Ok q → IsPolicyQualifier e.content q
unfolding policy_qualifier_of
qualifier-found e q fits read =
    let a = bind_ok (oid_at (inside e)) _ q read in
    let b = bind_ok (next_at a.0.1) _ q a.2 in
    let d = bind_ok (end_at b.0.1) _ q b.2 in
    let same : record { policyQualifierId = a.0.0; qualifier = b.0.0.whole } ≡ q = ok_is {A = Qualifier} {E = Fault} (record { policyQualifierId = a.0.0; qualifier = b.0.0.whole }) q d.2 in
    let first = took oid-part (inside e) a.0.0 a.0.1 fits a.1 in
    let s = next-found a.0.1 b.0.0 b.0.1 first.3 b.1 in
    let second : IsAny b.0.0.whole = record { tag = b.0.0.tag; content = b.0.0.content; fits = s.fits; encoded = s.encoded } in
    let last : a.0.1.rest ≡ b.0.0.whole = s.whole ∙ (ap (λ (r : List ℕ). b.0.0.whole ++ r) (end-ok b.0.1 d.0 d.1) ∙ append-nil b.0.0.whole) in
    subst (λ (x : Qualifier). IsPolicyQualifier e.content x) same (record { id = first.0; policyQualifierId = first.1; qualifier = second; fields = first.2 ∙ ap (λ (r : List ℕ). first.0 ++ r) last })

qualifier-again : (e : Tlv) (q : Qualifier) → IsPolicyQualifier e.content q → policy_qualifier_of e ≡ Ok q
unfolding policy_qualifier_of
qualifier-again e q is =
    let a = oid-part.again (inside e) q.policyQualifierId is.id q.qualifier is.policyQualifierId is.fields in
    let place : Place = record { rest = q.qualifier; at = e.start + length is.id } in
    let whole = is.qualifier in
    let b = next-only place whole.tag whole.content [] whole.fits (whole.encoded ∙ sym (append-nil _)) in
    rw (a, b, end-again _) (ap (λ (w : List ℕ). Ok (record { policyQualifierId = q.policyQualifierId; qualifier = w })) (sym whole.encoded))

-- an element of any tag, and nothing more
any-judged : {B : Type 0} (here : Place) (f : List ℕ → B) → Judged (der (next_at here >>= λ e. end_at e.1 >>= λ done. Ok (f e.0.whole))) (judge (any then nothing) here) (λ b. Unit {0})
any-judged {B} here f =
    subst (λ (r : Result B CertFault). Judged r (judge (any then nothing) here) (λ b. Unit {0})) (sym (flat (next_at here)))
    (next-judged any here (λ e. Ok e.whole) (λ x w. der (end_at x.1 >>= λ done. Ok (f w)))
    (judge nothing (behind here)) (λ w. Unit {0}) (λ b. Unit {0}) (refl, tt)
    (λ w h p. ends (behind here) (f w) _ (λ r. tt)))
  where
    flat : (r : Result (Tlv × Place) Fault)
        → der (r >>= λ e. end_at e.1 >>= λ done. Ok (f e.0.whole)) ≡ (der r >>= λ x. Ok x.0.whole >>= λ w. der (end_at x.1 >>= λ done. Ok (f w)))
    flat (Ok x) = refl
    flat (Err d) = refl

pub qualifier-format : Format policy_qualifier_of IsPolicyQualifier (object_identifier then any then nothing) no_rules
unfolding policy_qualifier_of
qualifier-format =
    record {
      found = qualifier-found;
      again = qualifier-again;
      judged = λ e.
          no_more _ _ _
          (under (oid_at (inside e)) _ _ _
          (then-judged object_identifier (any then nothing) (inside e) (λ here. der (oid_at here)) _ Whatever _ refl oid-reads (λ id p.
          any-judged (behind (inside e)) (λ w. record { policyQualifierId = id; qualifier = w }))));
    }

pub qualifiers-format : Format (some_of policy_qualifier_in) ArePolicyQualifiers (items policy_qualifier_info) list_rules
qualifiers-format = list-format 0x30 qualifier-format

-- ---- policies

information-found : (e : Tlv) (p : Information) → AreOctets e.content → policy_information_of e ≡ Ok p → IsPolicyInformation e.content p
unfolding policy_information_of
information-found e p fits read =
    let a = bind_ok (oid_at (inside e)) _ p read in
    let b = bind_ok (optional_of 0x30 (some_of policy_qualifier_in) a.0.1) _ p a.2 in
    let d = bind_ok (end_at b.0.1) _ p b.2 in
    let same : record { policyIdentifier = a.0.0; policyQualifiers = b.0.0 } ≡ p = ok_is {A = Information} {E = Fault} (record { policyIdentifier = a.0.0; policyQualifiers = b.0.0 }) p d.2 in
    let first = took oid-part (inside e) a.0.0 a.0.1 fits a.1 in
    let second = optional-found 0x30 (some_of policy_qualifier_in) ArePolicyQualifiers (value_of qualifiers-format 0x30) a.0.1 b.0.0 b.0.1 first.3 b.1 in
    let last : a.0.1.rest ≡ second.0 = second.2 ∙ (ap (λ (r : List ℕ). second.0 ++ r) (end-ok b.0.1 d.0 d.1) ∙ append-nil second.0) in
    subst (λ (x : Information). IsPolicyInformation e.content x) same
    (record { id = first.0; qualifiers = second.0; policyIdentifier = first.1; policyQualifiers = second.1; fields = first.2 ∙ ap (λ (r : List ℕ). first.0 ++ r) last })

information-again : (e : Tlv) (p : Information) → IsPolicyInformation e.content p → policy_information_of e ≡ Ok p
unfolding policy_information_of
information-again e p is =
    let a = oid-part.again (inside e) p.policyIdentifier is.id is.qualifiers is.policyIdentifier is.fields in
    let place : Place = record { rest = is.qualifiers; at = e.start + length is.id } in
    let b = optional-again 0x30 (some_of policy_qualifier_in) ArePolicyQualifiers
    (value_of qualifiers-format 0x30) place p.policyQualifiers is.qualifiers
    [] is.policyQualifiers refl (sym (append-nil is.qualifiers)) in
    let d = end-again (e.start + length is.id + length is.qualifiers) in
    rw (a, b, d) refl

information-format : Format policy_information_of IsPolicyInformation (object_identifier then optional policy_qualifiers then nothing) no_rules
unfolding policy_information_of
information-format =
    record {
      found = information-found;
      again = information-again;
      judged = λ e.
          no_more _ _ _
          (under (oid_at (inside e)) _ _ _
          (then-judged object_identifier (optional policy_qualifiers then nothing) (inside e) (λ here. der (oid_at here)) _ Whatever _ refl oid-reads (λ id p.
          under (optional_of 0x30 (some_of policy_qualifier_in) (behind (inside e))) _ _ _
          (optional-judged 0x30 (items policy_qualifier_info) list_rules nothing (behind (inside e))
          (some_of policy_qualifier_in) _ Whatever _ qualifiers-format.judged
          (λ qualifiers after. ends after _ _ (λ h. tt))))));
    }

pub certificate_policies-format : Format certificate_policies_of AreCertificatePolicies certificate_policies list_rules
certificate_policies-format = list-format 0x30 information-format

-- ---- mappings

mapping-found : (e : Tlv) (m : Mapping) → AreOctets e.content → policy_mapping_of e ≡ Ok m → IsPolicyMapping e.content m
unfolding policy_mapping_of
mapping-found e m fits read =
    let a = bind_ok (oid_at (inside e)) _ m read in
    let b = bind_ok (oid_at a.0.1) _ m a.2 in
    let d = bind_ok (end_at b.0.1) _ m b.2 in
    let same : record { issuerDomainPolicy = a.0.0; subjectDomainPolicy = b.0.0 } ≡ m = ok_is {A = Mapping} {E = Fault} (record { issuerDomainPolicy = a.0.0; subjectDomainPolicy = b.0.0 }) m d.2 in
    let first = took oid-part (inside e) a.0.0 a.0.1 fits a.1 in
    let second = took oid-part a.0.1 b.0.0 b.0.1 first.3 b.1 in
    let last : a.0.1.rest ≡ second.0 = second.2 ∙ (ap (λ (r : List ℕ). second.0 ++ r) (end-ok b.0.1 d.0 d.1) ∙ append-nil second.0) in
    subst (λ (x : Mapping). IsPolicyMapping e.content x) same
    (record { issuer = first.0; subject = second.0; issuerDomainPolicy = first.1; subjectDomainPolicy = second.1; fields = first.2 ∙ ap (λ (r : List ℕ). first.0 ++ r) last })

mapping-again : (e : Tlv) (m : Mapping) → IsPolicyMapping e.content m → policy_mapping_of e ≡ Ok m
unfolding policy_mapping_of
mapping-again e m is =
    let a = oid-part.again (inside e) m.issuerDomainPolicy is.issuer is.subject is.issuerDomainPolicy is.fields in
    let place : Place = record { rest = is.subject; at = e.start + length is.issuer } in
    let b = oid-part.again place m.subjectDomainPolicy is.subject [] is.subjectDomainPolicy (sym (append-nil is.subject)) in
    let d = end-again (e.start + length is.issuer + length is.subject) in
    rw (a, b, d) refl

mapping-format : Format policy_mapping_of IsPolicyMapping (object_identifier then object_identifier then nothing) no_rules
unfolding policy_mapping_of
mapping-format =
    record {
      found = mapping-found;
      again = mapping-again;
      judged = λ e.
          no_more _ _ _
          (under (oid_at (inside e)) _ _ _
          (then-judged object_identifier (object_identifier then nothing) (inside e) (λ here. der (oid_at here)) _ Whatever _ refl oid-reads (λ issuer p.
          under (oid_at (behind (inside e))) _ _ _
          (then-judged object_identifier nothing (behind (inside e)) (λ here. der (oid_at here)) _ Whatever _ refl oid-reads (λ subject q. ends (behind (behind (inside e))) _ _ (λ h. tt))))));
    }

pub policy_mappings-format : Format policy_mappings_of ArePolicyMappings policy_mappings list_rules
policy_mappings-format = list-format 0x30 mapping-format

-- ---- purposes

oid-kept : (b : Bool) → cond (not b) (Some OidForm) None ≡ None → b ≡ true
oid-kept true e = refl
oid-kept false e = absurd cc

oid-format : Format (value_at oid_rules (λ c. c)) IsOid plain (der_rules oid_rules)
oid-format = by_der_rules oid_rules (λ c. c) IsOid (λ c fits kept. (refl, oid-kept (is_oid c) kept)) (λ c x is. (rw (is.0, is.1) refl, is.0))

pub ext_key_usage-format : Format ext_key_usage_of AreKeyPurposes ext_key_usage list_rules
ext_key_usage-format = list-format 0x06 oid-format
