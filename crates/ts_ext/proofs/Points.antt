-- Distribution points and what a list covers, as they are read, encoded and refused.
use Rattle.std.proofs.Common.{◌≡◌, ℕ, ◌+◌, Bool, true, false, eqb, List, [], ◌++◌, length, Ok, refl, sym, ap, subst, ◌∙◌, arith}
use Rattle.std.proofs.lemmas.List.{append-nil}
use Rattle.ts_der.specs.declared.fault.Fault.{Fault}
use Rattle.ts_der.specs.Octets.{AreOctets}
use Rattle.ts_der.specs.Element.{Tlv, inside}
use Rattle.ts_der.specs.Default.{flag_at}
use Rattle.ts_der.specs.Reading.{begins_with, end_at}
use Rattle.ts_der.proofs.Laws.{bind_ok, ok_is}
use Rattle.ts_shape.specs.Items.{some_rules}
use Rattle.ts_shape.specs.Fields.{optional_of}
use Rattle.ts_shape.specs.Shape.{Shape, optional, plain, nothing, ◌then◌, der_rules, no_rules, primitive}
use Rattle.ts_shape.proofs.Judging.{no_more, under, ends, Whatever}
use Rattle.ts_shape.proofs.OptionalParts.{begins-if-any, optional-found, optional-again, optional-judged}
use Rattle.ts_shape.proofs.Endings.{end-ok, end-again}
use Rattle.ts_ext.specs.Encoding.{IfTrue, AreReasonFlags}
use Rattle.ts_ext.specs.Reading.{reason_flags_of}
use Rattle.ts_ext.specs.Table.{flag, reason_flags_rules, list_rules}
use Rattle.ts_ext.proofs.Lists.{list-format}
use Rattle.ts_ext.specs.GeneralNames.{AreGeneralNames, general_names_of, general_names_items, general_names}
use Rattle.ts_ext.proofs.Formats.{Format, value_of}
use Rattle.ts_ext.proofs.NamedBits.{reason_flags-format}
use Rattle.ts_ext.proofs.Flags.{flag-encoded, flag-again, flag-judged}
use Rattle.ts_ext.proofs.Names.{begins-last, general_names-format, wrapped_name-format}
use Rattle.ts_ext.specs.Points.{Point, ListScope, IsPointName, IsPoint, IsIssuingPoint}
use Rattle.ts_ext.specs.Points.{wrapped_name_of, point_of, issuing_point_of, point_name}
use Rattle.ts_ext.specs.Points.{point_fields, ArePoints, points_of, points_items}
use Rattle.ts_ext.specs.Points.{issuing_point_fields}

-- ---- distribution points

point-found : (e : Tlv) (p : Point) → AreOctets e.content → point_of e ≡ Ok p → IsPoint e.content p
unfolding point_of
point-found e p fits read =
    let n = bind_ok (optional_of 0xA0 wrapped_name_of (inside e)) _ p read in
    let r = bind_ok (optional_of 0x81 reason_flags_of n.0.1) _ p n.2 in
    let i = bind_ok (optional_of 0xA2 general_names_of r.0.1) _ p r.2 in
    let d = bind_ok (end_at i.0.1) _ p i.2 in
    let point : Point = record { distributionPoint = n.0.0; reasons = r.0.0; cRLIssuer = i.0.0 } in
    let same : point ≡ p = ok_is {A = Point} {E = Fault} point p d.2 in
    let first = optional-found 0xA0 wrapped_name_of IsPointName (value_of wrapped_name-format 0xA0) (inside e) n.0.0 n.0.1 fits n.1 in
    let second = optional-found 0x81 reason_flags_of AreReasonFlags (value_of reason_flags-format 0x81) n.0.1 r.0.0 r.0.1 first.3 r.1 in
    let third = optional-found 0xA2 general_names_of AreGeneralNames (value_of general_names-format 0xA2) r.0.1 i.0.0 i.0.1 second.3 i.1 in
    let last : r.0.1.rest ≡ third.0 = third.2 ∙ (ap (λ (o : List ℕ). third.0 ++ o) (end-ok i.0.1 d.0 d.1) ∙ append-nil third.0) in
    let behind : n.0.1.rest ≡ second.0 ++ third.0 = second.2 ∙ ap (λ (o : List ℕ). second.0 ++ o) last in
    subst (λ (x : Point). IsPoint e.content x) same
    (record {
      named = first.0;
      flags = second.0;
      issued_by = third.0;
      distributionPoint = first.1;
      reasons = second.1;
      cRLIssuer = third.1;
      fields = first.2 ∙ ap (λ (o : List ℕ). first.0 ++ o) behind;
    })

point-again : (e : Tlv) (p : Point) → IsPoint e.content p → point_of e ≡ Ok p
unfolding point_of
point-again e p is =
    let not_name : begins_with 0xA0 (is.flags ++ is.issued_by) ≡ false =
    begins-if-any 0x81 AreReasonFlags is.flags p.reasons is.reasons 0xA0 refl is.issued_by (begins-last 0xA2 AreGeneralNames 0xA0 is.issued_by p.cRLIssuer is.cRLIssuer refl) in
    let not_flags = begins-last 0xA2 AreGeneralNames 0x81 is.issued_by p.cRLIssuer is.cRLIssuer refl in
    let at1 = e.start + length is.named in
    let at2 = at1 + length is.flags in
    let n = optional-again 0xA0 wrapped_name_of IsPointName (value_of wrapped_name-format 0xA0)
    (inside e) p.distributionPoint is.named (is.flags ++ is.issued_by) is.distributionPoint
    not_name is.fields in
    let r = optional-again 0x81 reason_flags_of AreReasonFlags (value_of reason_flags-format 0x81)
    (record { rest = is.flags ++ is.issued_by; at = at1 }) p.reasons is.flags is.issued_by
    is.reasons not_flags refl in
    let i = optional-again 0xA2 general_names_of AreGeneralNames
    (value_of general_names-format 0xA2) (record { rest = is.issued_by; at = at2 }) p.cRLIssuer
    is.issued_by [] is.cRLIssuer refl (sym (append-nil is.issued_by)) in
    let d = end-again (at2 + length is.issued_by) in
    rw (n, r, i, d) refl

pub point-format : Format point_of IsPoint point_fields no_rules
unfolding point_of
point-format =
    record {
      found = point-found;
      again = point-again;
      judged = λ e.
          no_more _ _ _
          (under (optional_of 0xA0 wrapped_name_of (inside e)) _ _ _
          (optional-judged 0xA0 (point_name then nothing) no_rules
          (optional (primitive 0x81 reason_flags_rules) then optional (general_names 0xA2) then
          nothing) (inside e) wrapped_name_of _ Whatever _ wrapped_name-format.judged (λ name at1.
          under (optional_of 0x81 reason_flags_of at1) _ _ _
          (optional-judged 0x81 plain reason_flags_rules (optional (general_names 0xA2) then nothing) at1 reason_flags_of _ Whatever _ reason_flags-format.judged (λ reasons at2.
          under (optional_of 0xA2 general_names_of at2) _ _ _
          (optional-judged 0xA2 general_names_items (der_rules some_rules) nothing at2 general_names_of _ Whatever _ general_names-format.judged (λ issuer behind. ends behind _ _ (λ h. tt))))))));
    }

pub points-format : Format points_of ArePoints points_items list_rules
points-format = list-format 0x30 point-format

-- ---- what a list covers

-- a flag, and octets after it, do not begin with another tag
begins-flag : (tag : ℕ) (w : List ℕ) (b : Bool) → IfTrue tag w b → (other : ℕ) → eqb tag other ≡ false → (rest : List ℕ) → begins_with other rest ≡ false → begins_with other (w ++ rest) ≡ false
begins-flag tag w false is other differs rest absent = subst (λ (o : List ℕ). begins_with other (o ++ rest) ≡ false) (sym is) absent
begins-flag tag w true is other differs rest absent = subst (λ (o : List ℕ). begins_with other (o ++ rest) ≡ false) (sym is) differs

issuing-found : (e : Tlv) (p : ListScope) → AreOctets e.content → issuing_point_of e ≡ Ok p → IsIssuingPoint e.content p
unfolding issuing_point_of
issuing-found e p fits read =
    let n = bind_ok (optional_of 0xA0 wrapped_name_of (inside e)) _ p read in
    let u = bind_ok (flag_at 0x81 n.0.1) _ p n.2 in
    let c = bind_ok (flag_at 0x82 u.0.1) _ p u.2 in
    let r = bind_ok (optional_of 0x83 reason_flags_of c.0.1) _ p c.2 in
    let i = bind_ok (flag_at 0x84 r.0.1) _ p r.2 in
    let a = bind_ok (flag_at 0x85 i.0.1) _ p i.2 in
    let d = bind_ok (end_at a.0.1) _ p a.2 in
    let scope : ListScope =
    record {
      distributionPoint = n.0.0;
      onlyContainsUserCerts = u.0.0;
      onlyContainsCACerts =
          c.0.0;
      onlySomeReasons = r.0.0;
      indirectCRL = i.0.0;
      onlyContainsAttributeCerts = a.0.0;
    } in
    let same : scope ≡ p = ok_is {A = ListScope} {E = Fault} scope p d.2 in
    let one = optional-found 0xA0 wrapped_name_of IsPointName (value_of wrapped_name-format 0xA0) (inside e) n.0.0 n.0.1 fits n.1 in
    let two = flag-encoded 0x81 n.0.1 u.0.0 u.0.1 one.3 u.1 in
    let three = flag-encoded 0x82 u.0.1 c.0.0 c.0.1 two.3 c.1 in
    let four = optional-found 0x83 reason_flags_of AreReasonFlags (value_of reason_flags-format 0x83) c.0.1 r.0.0 r.0.1 three.3 r.1 in
    let five = flag-encoded 0x84 r.0.1 i.0.0 i.0.1 four.3 i.1 in
    let six = flag-encoded 0x85 i.0.1 a.0.0 a.0.1 five.3 a.1 in
    let b6 : i.0.1.rest ≡ six.0 = six.2 ∙ (ap (λ (o : List ℕ). six.0 ++ o) (end-ok a.0.1 d.0 d.1) ∙ append-nil six.0) in
    let b5 : r.0.1.rest ≡ five.0 ++ six.0 = five.2 ∙ ap (λ (o : List ℕ). five.0 ++ o) b6 in
    let b4 : c.0.1.rest ≡ four.0 ++ (five.0 ++ six.0) = four.2 ∙ ap (λ (o : List ℕ). four.0 ++ o) b5 in
    let b3 : u.0.1.rest ≡ three.0 ++ (four.0 ++ (five.0 ++ six.0)) = three.2 ∙ ap (λ (o : List ℕ). three.0 ++ o) b4 in
    let b2 : n.0.1.rest ≡ two.0 ++ (three.0 ++ (four.0 ++ (five.0 ++ six.0))) = two.2 ∙ ap (λ (o : List ℕ). two.0 ++ o) b3 in
    subst (λ (x : ListScope). IsIssuingPoint e.content x) same
    (record {
      named = one.0;
      user = two.0;
      ca = three.0;
      flags = four.0;
      indirect = five.0;
      attribute = six.0;
      distributionPoint = one.1;
      onlyContainsUserCerts = two.1;
      onlyContainsCACerts = three.1;
      onlySomeReasons = four.1;
      indirectCRL = five.1;
      onlyContainsAttributeCerts = six.1;
      fields = one.2 ∙ ap (λ (o : List ℕ). one.0 ++ o) b2;
    })

-- the octets of a scope from one field on, and that they do not begin with the tag of one before
record Behind (p : ListScope) (c : List ℕ) (is : IsIssuingPoint c p) (tag : ℕ) : Type 0 where
  at_attribute : eqb 0x85 tag ≡ false → begins_with tag is.attribute ≡ false
  at_indirect : eqb 0x85 tag ≡ false → eqb 0x84 tag ≡ false → begins_with tag (is.indirect ++ is.attribute) ≡ false

not_begun : (p : ListScope) (c : List ℕ) (is : IsIssuingPoint c p) (tag : ℕ) → Behind p c is tag
not_begun p c is tag =
    let last : eqb 0x85 tag ≡ false → begins_with tag is.attribute ≡ false =
    λ d. ap (begins_with tag) (sym (append-nil is.attribute)) ∙ begins-flag 0x85 is.attribute p.onlyContainsAttributeCerts is.onlyContainsAttributeCerts tag d [] refl in
    record {
      at_attribute = last;
      at_indirect = λ d f. begins-flag 0x84 is.indirect p.indirectCRL is.indirectCRL tag f is.attribute (last d);
    }

issuing-again : (e : Tlv) (p : ListScope) → IsIssuingPoint e.content p → issuing_point_of e ≡ Ok p
unfolding issuing_point_of
issuing-again e p is =
    let r6 = is.attribute in
    let r5 = is.indirect ++ r6 in
    let r4 = is.flags ++ r5 in
    let r3 = is.ca ++ r4 in
    let r2 = is.user ++ r3 in
    let at1 = e.start + length is.named in
    let at2 = at1 + length is.user in
    let at3 = at2 + length is.ca in
    let at4 = at3 + length is.flags in
    let at5 = at4 + length is.indirect in
    let four : (tag : ℕ) → eqb 0x85 tag ≡ false → eqb 0x84 tag ≡ false → eqb 0x83 tag ≡ false → begins_with tag r4 ≡ false =
    λ tag x y z. begins-if-any 0x83 AreReasonFlags is.flags p.onlySomeReasons is.onlySomeReasons tag z r5 ((not_begun p e.content is tag).at_indirect x y) in
    let three : (tag : ℕ) → eqb 0x85 tag ≡ false → eqb 0x84 tag ≡ false → eqb 0x83 tag ≡ false → eqb 0x82 tag ≡ false → begins_with tag r3 ≡ false =
    λ tag x y z w. begins-flag 0x82 is.ca p.onlyContainsCACerts is.onlyContainsCACerts tag w r4 (four tag x y z) in
    let two : begins_with 0xA0 r2 ≡ false = begins-flag 0x81 is.user p.onlyContainsUserCerts is.onlyContainsUserCerts 0xA0 refl r3 (three 0xA0 refl refl refl refl) in
    let n = optional-again 0xA0 wrapped_name_of IsPointName (value_of wrapped_name-format 0xA0) (inside e) p.distributionPoint is.named r2 is.distributionPoint two is.fields in
    let u = flag-again 0x81 (λ h. omega arith) (omega arith) (record { rest = r2; at = at1 }) p.onlyContainsUserCerts is.user r3 is.onlyContainsUserCerts (three 0x81 refl refl refl refl) refl in
    let c = flag-again 0x82 (λ h. omega arith) (omega arith) (record { rest = r3; at = at2 }) p.onlyContainsCACerts is.ca r4 is.onlyContainsCACerts (four 0x82 refl refl refl) refl in
    let r = optional-again 0x83 reason_flags_of AreReasonFlags (value_of reason_flags-format 0x83)
    (record { rest = r4; at = at3 }) p.onlySomeReasons is.flags r5 is.onlySomeReasons
    ((not_begun p e.content is 0x83).at_indirect refl refl) refl in
    let i = flag-again 0x84 (λ h. omega arith) (omega arith) (record { rest = r5; at = at4 }) p.indirectCRL is.indirect r6 is.indirectCRL ((not_begun p e.content is 0x84).at_attribute refl) refl in
    let a = flag-again 0x85 (λ h. omega arith) (omega arith) (record { rest = r6; at = at5 }) p.onlyContainsAttributeCerts is.attribute [] is.onlyContainsAttributeCerts refl (sym (append-nil r6)) in
    let d = end-again (at5 + length r6) in
    rw (n, u, c, r, i, a, d) refl

pub issuing_point-format : Format issuing_point_of IsIssuingPoint issuing_point_fields no_rules
unfolding issuing_point_of
issuing_point-format =
    let tail6 : Shape = optional (flag 0x85) then nothing in
    let tail5 : Shape = optional (flag 0x84) then tail6 in
    let tail4 : Shape = optional (primitive 0x83 reason_flags_rules) then tail5 in
    let tail3 : Shape = optional (flag 0x82) then tail4 in
    let tail2 : Shape = optional (flag 0x81) then tail3 in
    record {
      found = issuing-found;
      again = issuing-again;
      judged = λ e.
          no_more _ _ _
          (under (optional_of 0xA0 wrapped_name_of (inside e)) _ _ _
          (optional-judged 0xA0 (point_name then nothing) no_rules tail2 (inside e) wrapped_name_of _ Whatever _ wrapped_name-format.judged (λ name at1.
          under (flag_at 0x81 at1) _ _ _
          (flag-judged 0x81 tail3 at1 _ _ (λ user at2.
          under (flag_at 0x82 at2) _ _ _
          (flag-judged 0x82 tail4 at2 _ _ (λ ca at3.
          under (optional_of 0x83 reason_flags_of at3) _ _ _
          (optional-judged 0x83 plain reason_flags_rules tail5 at3 reason_flags_of _ Whatever _ reason_flags-format.judged (λ reasons at4.
          under (flag_at 0x84 at4) _ _ _
          (flag-judged 0x84 tail6 at4 _ _ (λ indirect at5.
          under (flag_at 0x85 at5) _ _ _
          (flag-judged 0x85 nothing at5 _ _ (λ attribute behind. ends behind _ _ (λ h. tt))))))))))))));
    }
