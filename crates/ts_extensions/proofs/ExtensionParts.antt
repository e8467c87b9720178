-- Extensions, as they are read, encoded and refused.
use Rattle.std.proofs.Common.{◌≡◌, ◌≢◌, ℕ, ◌+◌, ◌%◌, false, List, [], ◌++◌, length, Option, Some, None, Result, Ok, Err, refl, sym, ap, subst, ◌∙◌, arith}
use Rattle.std.specs.Prelude.{option_map}
use Rattle.std.proofs.lemmas.List.{append-nil}
use Rattle.ts_der.specs.declared.fault.Fault.{Fault}
use Rattle.ts_der.specs.Octets.{AreOctets}
use Rattle.ts_der.specs.Answer.{◌>>=◌}
use Rattle.ts_der.specs.Default.{flag_at}
use Rattle.ts_der.specs.Element.{Place, Tlv, inside}
use Rattle.ts_der.specs.Reading.{begins_with, element_at, end_at, behind}
use Rattle.ts_der.proofs.Laws.{bind_ok, ok_is, element-only}
use Rattle.ts_shape.specs.declared.fault.CertFault.{CertFault}
use Rattle.ts_shape.specs.Fault.{der, breaks}
use Rattle.ts_shape.specs.Fields.{Within, oid_at}
use Rattle.ts_shape.specs.Items.{each, of_tag}
use Rattle.ts_shape.specs.Rows.{object_identifier}
use Rattle.ts_shape.specs.Shape.{optional, plain, tagged, no_other, nothing, ◌then◌, ◌or_else◌, no_rules, primitive, judge}
use Rattle.ts_shape.proofs.FieldParts.{oid-part}
use Rattle.ts_shape.proofs.Judging.{Judged, no_more, under, ends, then-judged, element-judged, oid-reads, Whatever}
use Rattle.ts_shape.proofs.OptionalParts.{begins-if-any}
use Rattle.ts_shape.proofs.ItemParts.{tag-part, tag-reads, some-judged, alone-found, alone-again, alone-judged}
use Rattle.ts_shape.proofs.Parts.{Part, took, element-took}
use Rattle.ts_shape.proofs.Endings.{end-ok, end-again}
use Rattle.ts_ext.specs.AuthorityKey.{AreOctetsOf}
use Rattle.ts_extensions.specs.Extension.{Extension, Located, IsExtension, AreExtensions, AreExplicit}
use Rattle.ts_extensions.specs.Extension.{extension_fields, extension, extensions, explicit_extensions}
use Rattle.ts_extensions.specs.Extension.{unlocated, located_of, located_in, extension_of, extensions_of}
use Rattle.ts_extensions.specs.Extension.{explicit_extensions_of, all_located_of, explicit_all_located_of}
use Rattle.ts_ext.specs.Inner.{inner_fault}
use Rattle.ts_ext.specs.Table.{flag, list_rules}
use Rattle.ts_ext.proofs.Flags.{flag-encoded, flag-again, flag-judged}
use Rattle.ts_ext.proofs.Formats.{Format, value_of}
use Rattle.ts_ext.proofs.Lists.{list-format}

pub located-found : (e : Tlv) (x : Located) → AreOctets e.content → located_of e ≡ Ok x → IsExtension e.content (unlocated x)
unfolding located_of
located-found e x fits read =
    let i = bind_ok (oid_at (inside e)) _ x read in
    let c = bind_ok (flag_at 0x01 i.0.1) _ x i.2 in
    let v = bind_ok (element_at 0x04 c.0.1) _ x c.2 in
    let d = bind_ok (end_at v.0.1) _ x v.2 in
    let stands : Located = record { at = e.at; extnID = i.0.0; critical = c.0.0; value = v.0.0 } in
    let same : stands ≡ x = ok_is {A = Located} {E = Fault} stands x d.2 in
    let first = took oid-part (inside e) i.0.0 i.0.1 fits i.1 in
    let second = flag-encoded 0x01 i.0.1 c.0.0 c.0.1 first.3 c.1 in
    let third = element-took 0x04 c.0.1 v.0.0 v.0.1 second.3 v.1 in
    let last : c.0.1.rest ≡ v.0.0.whole = third.whole ∙ (ap (λ (o : List ℕ). v.0.0.whole ++ o) (end-ok v.0.1 d.0 d.1) ∙ append-nil v.0.0.whole) in
    let behind_id : i.0.1.rest ≡ second.0 ++ v.0.0.whole = second.2 ∙ ap (λ (o : List ℕ). second.0 ++ o) last in
    let value : Within 0x04 AreOctetsOf v.0.0.whole v.0.0.content = record { content = v.0.0.content; fits = third.fits; encoded = third.encoded; value = refl } in
    subst (λ (y : Located). IsExtension e.content (unlocated y)) same
    (record { id = first.0; flag = second.0; value = v.0.0.whole; extnID = first.1; critical = second.1; extnValue = value; fields = first.2 ∙ ap (λ (o : List ℕ). first.0 ++ o) behind_id })

extension-found : (e : Tlv) (x : Extension) → AreOctets e.content → extension_of e ≡ Ok x → IsExtension e.content x
extension-found e x fits read =
    let s = bind_ok (located_of e) (λ y. Ok (unlocated y)) x read in
    subst (λ (y : Extension). IsExtension e.content y) (ok_is {A = Extension} {E = Fault} (unlocated s.0) x s.2) (located-found e s.0 fits s.1)

pub extension-again : (e : Tlv) (x : Extension) → IsExtension e.content x → extension_of e ≡ Ok x
unfolding located_of
extension-again e x is =
    let low : 1 % 32 ≢ 31 = λ h. omega arith in
    let a = oid-part.again (inside e) x.extnID is.id (is.flag ++ is.value) is.extnID is.fields in
    let p : Place = record { rest = is.flag ++ is.value; at = e.start + length is.id } in
    let begins : begins_with 0x01 is.value ≡ false =
    ap (begins_with 0x01) (sym (append-nil is.value)) ∙ begins-if-any 0x04 AreOctetsOf is.value (Some x.extnValue) is.extnValue 0x01 refl [] refl in
    let b = flag-again 0x01 low (omega arith) p x.critical is.flag is.value is.critical begins refl in
    let q : Place = record { rest = is.value; at = e.start + length is.id + length is.flag } in
    let v = element-only q 0x04 is.extnValue.content [] is.extnValue.fits (is.extnValue.encoded ∙ sym (append-nil _)) in
    rw (a, b, v, end-again _) (ap (λ (o : List ℕ). Ok (record { extnID = x.extnID; critical = x.critical; extnValue = o })) is.extnValue.value)

located-judged : (e : Tlv) → Judged (der (located_of e)) (judge extension_fields (inside e)) (λ x. Unit {0})
unfolding located_of
located-judged e =
    under (oid_at (inside e)) _ _ _
    (then-judged object_identifier (optional (flag 0x01) then primitive 0x04 no_rules then nothing) (inside e) (λ here. der (oid_at here)) _ Whatever _ refl oid-reads (λ id p.
    under (flag_at 0x01 (behind (inside e))) _ _ _
    (flag-judged 0x01 (primitive 0x04 no_rules then nothing) (behind (inside e)) _ _ (λ critical after.
    under (element_at 0x04 after) _ _ _
    (element-judged 0x04 plain no_rules after (λ v. Ok v)
    (λ x v. der (end_at x.1 >>= λ done. Ok
    (record { at = e.at; extnID = id; critical = critical; value = v })))
    (judge nothing (behind after)) (λ v. Unit {0}) (λ s. Unit {0})
    (refl, tt) (λ v h t q. ends (behind after) (record { at = e.at; extnID = id; critical = critical; value = v }) (λ s. Unit {0}) (λ r. tt)))))))

extension-judged : (e : Tlv) → Judged (der (extension_of e)) (inner_fault extension_fields no_rules e) (λ x. Unit {0})
extension-judged e = no_more _ _ _ (kept (located_of e) _ (located-judged e))
  where
    kept : (r : Result Located Fault) (o : Option CertFault) → Judged (der r) o (λ x. Unit {0}) → Judged (der (r >>= λ x. Ok (unlocated x))) o (λ x. Unit {0})
    kept (Ok x) o j = (j.0, tt)
    kept (Err f) o j = j

-- ---- lists of extensions

pub all_located-judged : (e : Tlv) → Judged (der (all_located_of e)) (judge extensions (inside e) or_else option_map (breaks e.at) (list_rules e.content)) (λ xs. Unit {0})
all_located-judged e = some-judged extension located_in Whatever (tag-reads 0x30 extension_fields no_rules located_of Whatever (λ x. no_more _ _ _ (located-judged x))) e

pub explicit_all_located-judged : (e : Tlv) → Judged (der (explicit_all_located_of e)) (judge explicit_extensions (inside e) or_else None) (λ xs. Unit {0})
explicit_all_located-judged e =
    alone-judged (tagged 0x30 extensions list_rules no_other) (of_tag 0x30 all_located_of) Whatever (λ octets. refl)
    (tag-reads 0x30 extensions list_rules all_located_of Whatever all_located-judged) e

pub extensions-format : Format extensions_of AreExtensions extensions list_rules
extensions-format = list-format 0x30 (record { found = extension-found; again = extension-again; judged = extension-judged })

extensions-part : Part (each (of_tag 0x30 extensions_of)) AreExplicit
extensions-part = tag-part 0x30 extensions_of AreExtensions (value_of extensions-format 0x30)

pub explicit_extensions-format : Format explicit_extensions_of AreExplicit explicit_extensions no_rules
explicit_extensions-format =
    record {
      found = alone-found (of_tag 0x30 extensions_of) AreExplicit extensions-part;
      again = alone-again (of_tag 0x30 extensions_of) AreExplicit extensions-part;
      judged = alone-judged (tagged 0x30 extensions list_rules no_other) (of_tag 0x30 extensions_of) Whatever (λ octets. refl)
          (tag-reads 0x30 extensions list_rules extensions_of Whatever extensions-format.judged);
    }
