-- Extensions and entries: what is read is encoded so, and what is encoded so is read.
use Rattle.std.proofs.Common.{◌≡◌, ℕ, ◌+◌, List, [], ◌++◌, length, Option, Result, Ok, Err, refl, sym, ap, subst, ◌∙◌}
use Rattle.std.specs.Prelude.{map, option_map}
use Rattle.std.proofs.lemmas.List.{append-nil}
use Rattle.ts_der.specs.declared.fault.Fault.{Fault}
use Rattle.ts_der.specs.Octets.{AreOctets}
use Rattle.ts_der.specs.Answer.{◌>>=◌}
use Rattle.ts_der.specs.Element.{Place, Tlv, inside}
use Rattle.ts_der.specs.Reading.{end_at, many}
use Rattle.ts_der.proofs.Laws.{bind_ok, ok_is}
use Rattle.ts_shape.specs.Fields.{Within, integer_at, optional_of}
use Rattle.ts_shape.specs.Items.{each, alone, of_tag, some_of}
use Rattle.ts_shape.proofs.FieldParts.{integer-part}
use Rattle.ts_shape.proofs.ItemParts.{tag-part, alone-found, alone-again, many-found, many-again}
use Rattle.ts_shape.proofs.OptionalParts.{optional-found, optional-again}
use Rattle.ts_shape.proofs.Parts.{Value, took}
use Rattle.ts_shape.proofs.Endings.{end-ok, end-again}
use Rattle.ts_extensions.specs.Extension.{Extension, Located, unlocated, located_of, located_in, extension_of, extensions_of as stated_of, AreExtensions}
use Rattle.ts_extensions.proofs.ExtensionParts.{extensions-format}
use Rattle.ts_ext.proofs.Formats.{value_of}
use Rattle.ts_field.specs.declared.time.Time.{Time}
use Rattle.ts_field.specs.Time.{time_at}
use Rattle.ts_field.proofs.Times.{time-part}
use Rattle.ts_crl.specs.List.{LocatedExtensions, LocatedEntry, RevokedCertificate, unlocated_extensions, unlocated_entry}
use Rattle.ts_crl.specs.Reading.{located_extensions_of, wrapped_extensions_of, entry_of, located_entry_of, revoked_of}
use Rattle.ts_crl.specs.Encoding.{IsRevokedCertificate, AreRevoked}
use Rattle.ts_crl.proofs.Saying.{say, say_at, Says, unsaid, unsaid_at, tagged-say, optional-say, alone-say, many-say, some-say}

-- ---- extensions

listed-unlocated : Says (map unlocated) (some_of located_in) stated_of
listed-unlocated = some-say unlocated located_in (of_tag 0x30 extension_of) (tagged-say 0x30 unlocated located_of extension_of (λ e. refl))

placed-unlocated : (at : ℕ) (r : Result (List Located) Fault) → say (map unlocated) r ≡ say unlocated_extensions (r >>= λ xs. Ok (record { at = at; extensions = xs }))
placed-unlocated at (Ok xs) = refl
placed-unlocated at (Err d) = refl

pub extensions-unlocated : Says unlocated_extensions located_extensions_of stated_of
unfolding located_extensions_of
extensions-unlocated e = listed-unlocated e ∙ placed-unlocated e.at (some_of located_in e)

-- [0] EXPLICIT Extensions, by what they say
abbrev pub wrapped_of : Tlv → Result (List Extension) Fault
wrapped_of = alone (of_tag 0x30 stated_of)

pub wrapped-unlocated : Says unlocated_extensions wrapped_extensions_of wrapped_of
unfolding wrapped_extensions_of
wrapped-unlocated e =
    alone-say (map unlocated) (of_tag 0x30 (some_of located_in)) (of_tag 0x30 stated_of) (tagged-say 0x30 (map unlocated) (some_of located_in) stated_of listed-unlocated) e
    ∙ placed-unlocated e.at (alone (of_tag 0x30 (some_of located_in)) e)

pub extensions-value : Value 0x30 stated_of AreExtensions
extensions-value = value_of extensions-format 0x30

pub wrapped-value : Value 0xA0 wrapped_of (Within 0x30 AreExtensions)
wrapped-value =
    let part = tag-part 0x30 stated_of AreExtensions extensions-value in
    record {
      found = λ e x fits w read. alone-found (of_tag 0x30 stated_of) (Within 0x30 AreExtensions) part e x fits read;
      again = λ e x w is. alone-again (of_tag 0x30 stated_of) (Within 0x30 AreExtensions) part e x is;
    }

-- ---- entries

abbrev made : List ℕ → Time → Option LocatedExtensions → Result LocatedEntry Fault
made serial date extensions = Ok (record { userCertificate = serial; revocationDate = date; crlEntryExtensions = extensions })

entry-found : (e : Tlv) (x : LocatedEntry) → AreOctets e.content → entry_of e ≡ Ok x → IsRevokedCertificate e.content (unlocated_entry x)
unfolding entry_of
entry-found e x fits read =
    let s = bind_ok (integer_at (inside e)) _ x read in
    let d = bind_ok (time_at s.0.1) _ x s.2 in
    let o = bind_ok (optional_of 0x30 located_extensions_of d.0.1) _ x d.2 in
    let z = bind_ok (end_at o.0.1) _ x o.2 in
    let made : LocatedEntry = record { userCertificate = s.0.0; revocationDate = d.0.0; crlEntryExtensions = o.0.0 } in
    let same : made ≡ x = ok_is {A = LocatedEntry} {E = Fault} made x z.2 in
    let serial = took integer-part (inside e) s.0.0 s.0.1 fits s.1 in
    let date = took time-part s.0.1 d.0.0 d.0.1 serial.3 d.1 in
    let stated : optional_of 0x30 stated_of d.0.1 ≡ Ok (option_map unlocated_extensions o.0.0, o.0.1) =
    optional-say 0x30 unlocated_extensions located_extensions_of stated_of extensions-unlocated
    d.0.1 ∙ ap (λ (r : Result (Option LocatedExtensions × Place) Fault). say_at
    (option_map unlocated_extensions) r) o.1 in
    let ext = optional-found 0x30 stated_of AreExtensions extensions-value d.0.1 (option_map unlocated_extensions o.0.0) o.0.1 date.3 stated in
    let last : d.0.1.rest ≡ ext.0 = ext.2 ∙ (ap (λ (r : List ℕ). ext.0 ++ r) (end-ok o.0.1 z.0 z.1) ∙ append-nil ext.0) in
    let behind : s.0.1.rest ≡ date.0 ++ ext.0 = date.2 ∙ ap (λ (r : List ℕ). date.0 ++ r) last in
    subst (λ (y : LocatedEntry). IsRevokedCertificate e.content (unlocated_entry y)) same
    (record {
      serial = serial.0;
      date = date.0;
      extensions = ext.0;
      userCertificate =
          serial.1;
      revocationDate = date.1;
      crlEntryExtensions = ext.1;
      fields = serial.2
          ∙ ap (λ (r : List ℕ). serial.0 ++ r) behind;
    })

entry-again : (e : Tlv) (y : RevokedCertificate) → IsRevokedCertificate e.content y → (x : LocatedEntry) × (entry_of e ≡ Ok x) × (unlocated_entry x ≡ y)
unfolding entry_of
entry-again e y is =
    let a = integer-part.again (inside e) y.userCertificate is.serial (is.date ++ is.extensions) is.userCertificate is.fields in
    let p : Place = record { rest = is.date ++ is.extensions; at = e.start + length is.serial } in
    let b = time-part.again p y.revocationDate is.date is.extensions is.revocationDate refl in
    let q : Place = record { rest = is.extensions; at = p.at + length is.date } in
    let r : Place = record { rest = []; at = q.at + length is.extensions } in
    let c = optional-again 0x30 stated_of AreExtensions extensions-value q y.crlEntryExtensions is.extensions [] is.crlEntryExtensions refl (sym (append-nil is.extensions)) in
    let o = unsaid_at (option_map unlocated_extensions) (optional_of 0x30 located_extensions_of q)
    y.crlEntryExtensions r
    (sym (optional-say 0x30 unlocated_extensions located_extensions_of stated_of
    extensions-unlocated q) ∙ c) in
    joined (integer_at (inside e)) p q r o.0 a b o.1 (end-again r.at) o.2
  where
    joined : (first : Result (List ℕ × Place) Fault) (p q r : Place) (xs : Option LocatedExtensions)
        → first ≡ Ok (y.userCertificate, p) → time_at p ≡ Ok (y.revocationDate, q)
        → optional_of 0x30 located_extensions_of q ≡ Ok (xs, r)
        → end_at r ≡ Ok tt → option_map unlocated_extensions xs ≡ y.crlEntryExtensions
        → (x : LocatedEntry) ×
        ((first >>= λ serial. time_at serial.1 >>= λ date. optional_of 0x30
        located_extensions_of date.1 >>= λ extensions. end_at extensions.1 >>= λ done. made
        serial.0 date.0 extensions.0) ≡ Ok x) × (unlocated_entry x ≡ y)
    joined first p q r xs a b c d same = (
      record { userCertificate = y.userCertificate; revocationDate = y.revocationDate; crlEntryExtensions = xs },
      rw (a, b, c, d) refl,
      ap (λ (xs : Option (List Extension)). record { userCertificate = y.userCertificate; revocationDate = y.revocationDate; crlEntryExtensions = xs }) same,
    )

-- an entry, by what it says
abbrev pub stated_entry_of : Tlv → Result RevokedCertificate Fault
stated_entry_of e = say unlocated_entry (entry_of e)

entry-value : Value 0x30 stated_entry_of IsRevokedCertificate
entry-value =
    record {
      found = λ e y fits w read. let x = unsaid unlocated_entry (entry_of e) y read in subst (λ (z : RevokedCertificate). IsRevokedCertificate e.content z) x.2 (entry-found e x.0 fits x.1);
      again = λ e y w is. let x = entry-again e y is in ap (λ (r : Result LocatedEntry Fault). say unlocated_entry r) x.1 ∙ ap (λ (z : RevokedCertificate). Ok z) x.2;
    }

-- the entries of a list, by what they say
abbrev pub stated_revoked_of : Tlv → Result (List RevokedCertificate) Fault
stated_revoked_of e = many (each (of_tag 0x30 stated_entry_of)) (inside e)

pub revoked-unlocated : Says (map unlocated_entry) revoked_of stated_revoked_of
revoked-unlocated e = many-say unlocated_entry located_entry_of (of_tag 0x30 stated_entry_of) (tagged-say 0x30 unlocated_entry entry_of stated_entry_of (λ x. refl)) (inside e)

pub revoked-value : Value 0x30 stated_revoked_of AreRevoked
revoked-value =
    let part = tag-part 0x30 stated_entry_of IsRevokedCertificate entry-value in
    record {
      found = λ e xs fits w read. many-found (of_tag 0x30 stated_entry_of) (Within 0x30 IsRevokedCertificate) part (inside e) xs fits read;
      again = λ e xs w is. many-again (of_tag 0x30 stated_entry_of) (Within 0x30 IsRevokedCertificate) part (inside e) xs is;
    }
