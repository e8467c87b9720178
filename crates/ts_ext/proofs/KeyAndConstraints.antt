-- The key of an authority and name constraints, as they are read, encoded and refused.
use Rattle.std.proofs.Common.{◌≡◌, ℕ, ◌+◌, false, List, [], ◌++◌, length, Ok, refl, sym, ap, subst, ◌∙◌}
use Rattle.std.proofs.lemmas.List.{append-nil}
use Rattle.ts_der.specs.declared.fault.Fault.{Fault}
use Rattle.ts_der.specs.Octets.{AreOctets}
use Rattle.ts_der.specs.Element.{Tlv, inside}
use Rattle.ts_der.specs.Integer.{integer_rules}
use Rattle.ts_der.specs.Reading.{begins_with, end_at}
use Rattle.ts_der.proofs.Laws.{bind_ok, ok_is}
use Rattle.ts_shape.specs.Items.{some_rules}
use Rattle.ts_shape.specs.Fields.{IsInteger, optional_of}
use Rattle.ts_shape.specs.Shape.{optional, items, plain, nothing, ◌then◌, der_rules, no_rules, primitive}
use Rattle.ts_name.specs.SubtreeTable.{general_subtree}
use Rattle.ts_shape.proofs.Judging.{no_more, under, ends, Whatever}
use Rattle.ts_shape.proofs.OptionalParts.{begins-if-any, optional-found, optional-again, optional-judged}
use Rattle.ts_shape.proofs.Endings.{end-ok, end-again}
use Rattle.ts_ext.specs.GeneralNames.{AreGeneralNames, general_names_of, general_names_items, general_names}
use Rattle.ts_ext.proofs.Formats.{Format, value_of}
use Rattle.ts_ext.proofs.Names.{begins-last, general_names-format, subtrees-format}
use Rattle.ts_ext.specs.AuthorityKey.{AuthorityKey, AreOctetsOf, IsAuthorityKey, content_octets_of, serial_of, authority_key_of, authority_key_fields}
use Rattle.ts_ext.specs.NameConstraints.{Constraints, AreSubtrees, AreConstraints, subtrees_of, general_subtrees, name_constraints_of, name_constraints_fields}
use Rattle.ts_ext.proofs.Values.{base_crl_number-format}
use Rattle.ts_ext.specs.Reading.{base_crl_number_of}

-- ---- the key of an authority

pub octets-format : Format content_octets_of AreOctetsOf plain no_rules
octets-format = record { found = λ e x fits read. ok_is {E = Fault} e.content x read; again = λ e x is. ap (λ (o : List ℕ). Ok o) is; judged = λ e. (refl, tt) }

serial-format : Format serial_of IsInteger plain (der_rules integer_rules)
unfolding base_crl_number_of
serial-format = base_crl_number-format

key-found : (e : Tlv) (a : AuthorityKey) → AreOctets e.content → authority_key_of e ≡ Ok a → IsAuthorityKey e.content a
unfolding authority_key_of
key-found e a fits read =
    let k = bind_ok (optional_of 0x80 content_octets_of (inside e)) _ a read in
    let i = bind_ok (optional_of 0xA1 general_names_of k.0.1) _ a k.2 in
    let s = bind_ok (optional_of 0x82 serial_of i.0.1) _ a i.2 in
    let d = bind_ok (end_at s.0.1) _ a s.2 in
    let key : AuthorityKey = record { keyIdentifier = k.0.0; authorityCertIssuer = i.0.0; authorityCertSerialNumber = s.0.0 } in
    let same : key ≡ a = ok_is {A = AuthorityKey} {E = Fault} key a d.2 in
    let first = optional-found 0x80 content_octets_of AreOctetsOf (value_of octets-format 0x80) (inside e) k.0.0 k.0.1 fits k.1 in
    let second = optional-found 0xA1 general_names_of AreGeneralNames (value_of general_names-format 0xA1) k.0.1 i.0.0 i.0.1 first.3 i.1 in
    let third = optional-found 0x82 serial_of IsInteger (value_of serial-format 0x82) i.0.1 s.0.0 s.0.1 second.3 s.1 in
    let last : i.0.1.rest ≡ third.0 = third.2 ∙ (ap (λ (o : List ℕ). third.0 ++ o) (end-ok s.0.1 d.0 d.1) ∙ append-nil third.0) in
    let behind : k.0.1.rest ≡ second.0 ++ third.0 = second.2 ∙ ap (λ (o : List ℕ). second.0 ++ o) last in
    subst (λ (x : AuthorityKey). IsAuthorityKey e.content x) same
    (record {
      key = first.0;
      issuer = second.0;
      serial = third.0;
      keyIdentifier = first.1;
      authorityCertIssuer = second.1;
      authorityCertSerialNumber = third.1;
      fields = first.2 ∙ ap (λ (o : List ℕ). first.0 ++ o) behind;
    })

key-again : (e : Tlv) (a : AuthorityKey) → IsAuthorityKey e.content a → authority_key_of e ≡ Ok a
unfolding authority_key_of
key-again e a is =
    let not_key : begins_with 0x80 (is.issuer ++ is.serial) ≡ false =
    begins-if-any 0xA1 AreGeneralNames is.issuer a.authorityCertIssuer is.authorityCertIssuer 0x80
    refl is.serial (begins-last 0x82 IsInteger 0x80 is.serial a.authorityCertSerialNumber
    is.authorityCertSerialNumber refl) in
    let not_issuer = begins-last 0x82 IsInteger 0xA1 is.serial a.authorityCertSerialNumber is.authorityCertSerialNumber refl in
    let at1 = e.start + length is.key in
    let at2 = at1 + length is.issuer in
    let k = optional-again 0x80 content_octets_of AreOctetsOf (value_of octets-format 0x80) (inside e) a.keyIdentifier is.key (is.issuer ++ is.serial) is.keyIdentifier not_key is.fields in
    let i = optional-again 0xA1 general_names_of AreGeneralNames
    (value_of general_names-format 0xA1) (record { rest = is.issuer ++ is.serial; at = at1 })
    a.authorityCertIssuer is.issuer is.serial is.authorityCertIssuer not_issuer refl in
    let s = optional-again 0x82 serial_of IsInteger (value_of serial-format 0x82)
    (record { rest = is.serial; at = at2 }) a.authorityCertSerialNumber is.serial
    [] is.authorityCertSerialNumber refl (sym (append-nil is.serial)) in
    let d = end-again (at2 + length is.serial) in
    rw (k, i, s, d) refl

pub authority_key-format : Format authority_key_of IsAuthorityKey authority_key_fields no_rules
unfolding authority_key_of
authority_key-format =
    record {
      found = key-found;
      again = key-again;
      judged = λ e.
          no_more _ _ _
          (under (optional_of 0x80 content_octets_of (inside e)) _ _ _
          (optional-judged 0x80 plain no_rules
          (optional (general_names 0xA1) then optional
          (primitive 0x82 (der_rules integer_rules)) then nothing) (inside e) content_octets_of _
          Whatever _ octets-format.judged (λ key at1.
          under (optional_of 0xA1 general_names_of at1) _ _ _
          (optional-judged 0xA1 general_names_items (der_rules some_rules)
          (optional (primitive 0x82 (der_rules integer_rules)) then nothing) at1 general_names_of _
          Whatever _ general_names-format.judged (λ issuer at2.
          under (optional_of 0x82 serial_of at2) _ _ _
          (optional-judged 0x82 plain (der_rules integer_rules) nothing at2 serial_of _ Whatever _ serial-format.judged (λ serial behind. ends behind _ _ (λ h. tt))))))));
    }

-- ---- name constraints

constraints-found : (e : Tlv) (n : Constraints) → AreOctets e.content → name_constraints_of e ≡ Ok n → AreConstraints e.content n
unfolding name_constraints_of
constraints-found e n fits read =
    let p = bind_ok (optional_of 0xA0 subtrees_of (inside e)) _ n read in
    let x = bind_ok (optional_of 0xA1 subtrees_of p.0.1) _ n p.2 in
    let d = bind_ok (end_at x.0.1) _ n x.2 in
    let both : Constraints = record { permittedSubtrees = p.0.0; excludedSubtrees = x.0.0 } in
    let same : both ≡ n = ok_is {A = Constraints} {E = Fault} both n d.2 in
    let first = optional-found 0xA0 subtrees_of AreSubtrees (value_of subtrees-format 0xA0) (inside e) p.0.0 p.0.1 fits p.1 in
    let second = optional-found 0xA1 subtrees_of AreSubtrees (value_of subtrees-format 0xA1) p.0.1 x.0.0 x.0.1 first.3 x.1 in
    let last : p.0.1.rest ≡ second.0 = second.2 ∙ (ap (λ (o : List ℕ). second.0 ++ o) (end-ok x.0.1 d.0 d.1) ∙ append-nil second.0) in
    subst (λ (y : Constraints). AreConstraints e.content y) same
    (record { permitted = first.0; excluded = second.0; permittedSubtrees = first.1; excludedSubtrees = second.1; fields = first.2 ∙ ap (λ (o : List ℕ). first.0 ++ o) last })

constraints-again : (e : Tlv) (n : Constraints) → AreConstraints e.content n → name_constraints_of e ≡ Ok n
unfolding name_constraints_of
constraints-again e n is =
    let not_permitted = begins-last 0xA1 AreSubtrees 0xA0 is.excluded n.excludedSubtrees is.excludedSubtrees refl in
    let p = optional-again 0xA0 subtrees_of AreSubtrees (value_of subtrees-format 0xA0) (inside e) n.permittedSubtrees is.permitted is.excluded is.permittedSubtrees not_permitted is.fields in
    let x = optional-again 0xA1 subtrees_of AreSubtrees (value_of subtrees-format 0xA1)
    (record { rest = is.excluded; at = e.start + length is.permitted }) n.excludedSubtrees
    is.excluded [] is.excludedSubtrees refl (sym (append-nil is.excluded)) in
    let d = end-again (e.start + length is.permitted + length is.excluded) in
    rw (p, x, d) refl

pub name_constraints-format : Format name_constraints_of AreConstraints name_constraints_fields no_rules
unfolding name_constraints_of
name_constraints-format =
    record {
      found = constraints-found;
      again = constraints-again;
      judged = λ e.
          no_more _ _ _
          (under (optional_of 0xA0 subtrees_of (inside e)) _ _ _
          (optional-judged 0xA0 (items general_subtree) (der_rules some_rules)
          (optional (general_subtrees 0xA1) then nothing) (inside e) subtrees_of _ Whatever _
          subtrees-format.judged (λ permitted at1.
          under (optional_of 0xA1 subtrees_of at1) _ _ _
          (optional-judged 0xA1 (items general_subtree) (der_rules some_rules) nothing at1 subtrees_of _ Whatever _ subtrees-format.judged (λ excluded behind. ends behind _ _ (λ h. tt))))));
    }
