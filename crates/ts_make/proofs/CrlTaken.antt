-- What is made and breaks no rule that has a place is read, or refused for a critical extension or as a delta without a number.
use Rattle.std.proofs.Common.{◌≡◌, ℕ, ◌+◌, ◌&&◌, not, ◌≤◌, Bool, true, false, cond, List, [], ◌∷◌, ◌++◌, length, Option, Some, None, Result, Ok, Err, refl, sym, ap, subst, ◌∙◌, arith}
use Rattle.std.specs.Prelude.{map, unwrap_or, option_map, is_none}
use Rattle.std.specs.List.{find, list_any}
use Rattle.std.specs.Str.{bytes_eq}
use Rattle.std.proofs.lemmas.Slice.Eq.{bytes_eq-Decides}
use Rattle.std.proofs.lemmas.List.{append-nil}
use Rattle.ts_der.specs.declared.oid.OidRef.{OidRef}
use Rattle.ts_der.specs.declared.fault.Fault.{Fault}
use Rattle.ts_der.specs.Answer.{◌>>=◌}
use Rattle.ts_der.specs.Element.{Place, Tlv, Fits, length_octets, encode, inside, encoded_at}
use Rattle.ts_der.specs.Reading.{end_at}
use Rattle.ts_der.proofs.Laws.{next-only}
use Rattle.ts_shape.specs.Items.{each, alone, of_tag, tagged_as}
use Rattle.ts_shape.specs.Shape.{◌or_else◌}
use Rattle.ts_ext.specs.declared.known.Holder.TheVariants.{List as ListHolder}
use Rattle.ts_ext.specs.declared.known.Known.TheVariants.{IssuingDistributionPoint}
use Rattle.ts_ext.specs.Ext.{ExtValue, issuingDistributionPoint, ext_of}
use Rattle.ts_extensions.specs.Extension.{Extension}
use Rattle.ts_ext.specs.Known.{known_at, list_extension, identifier_of}
use Rattle.ts_ext.specs.Points.{ListScope, issuing_point_of}
use Rattle.ts_field.specs.declared.time.Time.{Time}
use Rattle.ts_crl.specs.Entries.{entries_of}
use Rattle.ts_crl.specs.Fault.{ListFault, noNextUpdate, criticalCrlExtension, indirect, relativeName, deltaCrl}
use Rattle.ts_crl.specs.List.{CertificateList, unlocated_list}
use Rattle.ts_crl.specs.Profile.{profile_fault, first_unprocessed, is_indirect, is_relative, is_delta, has_number, is_relative_name, as_scope, scope_of, scope_meets, names_issuer}
use Rattle.ts_crl.specs.Values.{is_known, list_extensions, ok_of, value_in_octets, value_if_any, value_among}
use Rattle.ts_make.specs.declared.crl_description.EntryText.{EntryText}
use Rattle.ts_make.specs.declared.crl_description.CrlText.{CrlText}
use Rattle.ts_make.specs.Extensions.{field_of, sequence_extension}
use Rattle.ts_make.specs.CrlExtensions.{number_extensions, base_extensions, full_name, some_reasons, scope_content, null_extension, crl_extensions}
use Rattle.ts_make.proofs.CrlEncoded.{entry_said, revoked_said}
use Rattle.ts_make.proofs.CrlAnswered.{IsCrlRead}
use Rattle.ts_make.proofs.CrlProfile.{IsPlain, scope-read}

-- a scope, where one is stated, is of the list's issuer, and its name is not relative
abbrev pub IsPlainScope : Option ListScope → Type 0
IsPlainScope None = Unit {0}
IsPlainScope (Some p) = (p.indirectCRL ≡ false) × (is_relative_name p.distributionPoint ≡ false)

pub scope-value : (content : List ℕ) → length content ≤ 4194304 → ((e : Tlv) → e.content ≡ content → IsPlain (issuing_point_of e))
    → IsPlainScope (as_scope (value_in_octets (Some IssuingDistributionPoint) (encode 0x30 content)))
unfolding value_in_octets ext_of alone each of_tag tagged_as
scope-value content le plain =
    let here : Place = inside (encoded_at 0 0x04 (encode 0x30 content)) in
    let fits : Fits 0x30 content = record { octet = omega arith; low = omega arith; short = omega arith } in
    let one = next-only here 0x30 content [] fits (sym (append-nil (encode 0x30 content))) in
    rw one (by_scope (issuing_point_of (encoded_at here.at 0x30 content)) (plain (encoded_at here.at 0x30 content) refl))
  where
    behind : Place
    behind = record { rest = []; at = (inside (encoded_at 0 0x04 (encode 0x30 content))).at + length (encode 0x30 content) }

    by_end : (p : ListScope) (r : Result (Unit {0}) Fault) → (p.indirectCRL ≡ false)
        × (is_relative_name p.distributionPoint ≡ false)
        → IsPlainScope (as_scope (ok_of (r >>= λ done. Ok (issuingDistributionPoint p))))
    by_end p (Ok done) is = is
    by_end p (Err f) is = tt

    by_scope : (r : Result ListScope Fault) → IsPlain r
        → IsPlainScope (as_scope (ok_of (((r >>= λ x. Ok (issuingDistributionPoint x)) >>= λ x. let pair : ExtValue × Place = (x, behind) in Ok pair) >>= λ x. end_at x.1 >>= λ done. Ok x.0)))
    by_scope (Ok p) is = by_end p (end_at behind) is
    by_scope (Err f) is = tt

-- NULL is no scope
null-scope : (id : List ℕ) → id ≡ identifier_of IssuingDistributionPoint → as_scope (value_in_octets (known_at ListHolder id) (0x05 ∷ 0 ∷ [])) ≡ None
unfolding known_at list_extension value_in_octets ext_of alone each of_tag tagged_as length_octets
null-scope id e =
    let here : Place = inside (encoded_at 0 0x04 (0x05 ∷ 0 ∷ [])) in
    let fits : Fits 0x05 [] = record { octet = omega arith; low = omega arith; short = omega arith } in
    let one = next-only here 0x05 [] [] fits refl in
    rw (e, one) refl

plain-nulls : (oids : List OidRef) → IsPlainScope (as_scope (value_among ListHolder IssuingDistributionPoint (map null_extension oids)))
plain-nulls [] = tt
plain-nulls (oid ∷ oids) = by_test (bytes_eq oid.content.now (identifier_of IssuingDistributionPoint)) refl (plain-nulls oids)
  where
    by_test : (b : Bool) → bytes_eq oid.content.now (identifier_of IssuingDistributionPoint) ≡ b → IsPlainScope (as_scope (value_among ListHolder IssuingDistributionPoint (map null_extension oids)))
        → IsPlainScope (as_scope (value_if_any ListHolder (cond b (Some (null_extension oid)) (find (is_known IssuingDistributionPoint) (map null_extension oids)))))
    by_test true t rest = subst IsPlainScope (sym (null-scope oid.content.now ((bytes_eq-Decides oid.content.now (identifier_of IssuingDistributionPoint)).0 t))) tt
    by_test false t rest = rest

plain-number : (n : Option ℕ) (ys : List Extension)
    → IsPlainScope (as_scope (value_among ListHolder IssuingDistributionPoint ys))
    → IsPlainScope (as_scope
    (value_among ListHolder IssuingDistributionPoint (number_extensions n ++ ys)))
plain-number None ys plain = plain
plain-number (Some n) ys plain = plain

plain-base : (n : Option ℕ) (ys : List Extension)
    → IsPlainScope (as_scope (value_among ListHolder IssuingDistributionPoint ys))
    → IsPlainScope (as_scope
    (value_among ListHolder IssuingDistributionPoint (base_extensions n ++ ys)))
plain-base None ys plain = plain
plain-base (Some n) ys plain = plain

plain-sequence : (content : List ℕ) (ys : List Extension) → length content ≤ 4194304
    → ((e : Tlv) → e.content ≡ content → IsPlain (issuing_point_of e))
    → IsPlainScope (as_scope (value_among ListHolder IssuingDistributionPoint ys))
    → IsPlainScope (as_scope (value_among ListHolder IssuingDistributionPoint (sequence_extension 28 true content ++ ys)))
unfolding known_at list_extension
plain-sequence [] ys le read plain = plain
plain-sequence (octet ∷ content) ys le read plain = scope-value (octet ∷ content) le read

pub plain-scope : (text : CrlText) → length (scope_content text.uris.now text.reasons.now) ≤ 4194304 → IsPlainScope (as_scope (value_among ListHolder IssuingDistributionPoint (crl_extensions text)))
unfolding crl_extensions scope_content
plain-scope text le =
    let content = full_name text.uris.now ++ some_reasons text.reasons.now in
    let nulls = map null_extension text.critical.now in
    plain-number text.number (base_extensions text.base ++ (sequence_extension 28 true content ++ nulls))
    (plain-base text.base (sequence_extension 28 true content ++ nulls) (plain-sequence content nulls le (λ e is. scope-read e text.uris.now text.reasons.now le is) (plain-nulls text.critical.now)))

-- no entry names another issuer
no-issuer : (date : Time) (es : List EntryText) → list_any names_issuer (map (entry_said date) es) ≡ false
no-issuer date [] = refl
no-issuer date (e ∷ es) = no-issuer date es

no-issuers : (date : Time) (es : List EntryText) → list_any names_issuer (unwrap_or (revoked_said date es) []) ≡ false
no-issuers date [] = refl
no-issuers date (e ∷ es) = no-issuer date (e ∷ es)

meets : (o : Option ListScope) → IsPlainScope o → (scope_meets (λ p. p.indirectCRL) o ≡ false) × (scope_meets (λ p. is_relative_name p.distributionPoint) o ≡ false)
meets None plain = (refl, refl)
meets (Some p) plain = plain

-- the rules of the profile that may be broken
abbrev pub left_fault : CertificateList → Option ListFault
left_fault c = option_map (λ oid. criticalCrlExtension oid) (first_unprocessed c) or_else cond (is_delta c && not (has_number c)) (Some deltaCrl) None

pub only-left : (c : CertificateList) → is_none c.tbsCertList.nextUpdate ≡ false → list_any names_issuer (entries_of c) ≡ false → IsPlainScope (scope_of c) → profile_fault c ≡ left_fault c
only-left c next issuers plain =
    let m = meets (scope_of c) plain in
    let not_indirect : is_indirect c ≡ false = rw (m.0, issuers) refl in
    chain (is_none c.tbsCertList.nextUpdate) (is_indirect c) (is_relative c) (is_delta c && not (has_number c)) (first_unprocessed c) next not_indirect m.1
  where
    chain : (a b r d : Bool) (o : Option (List ℕ)) → a ≡ false → b ≡ false → r ≡ false
        → ((cond a (Some noNextUpdate) None) or_else option_map (λ oid. criticalCrlExtension oid) o
        or_else (cond b (Some indirect) None) or_else (cond r (Some relativeName) None) or_else
        (cond d (Some deltaCrl) None)) ≡
        (option_map (λ oid. criticalCrlExtension oid) o or_else cond d (Some deltaCrl) None)
    chain false false false d None e f g = refl
    chain false false false d (Some oid) e f g = refl
    chain true b r d o e f g = absurd cc
    chain false true r d o e f g = absurd cc
    chain false false true d o e f g = absurd cc

field-list : (xs : List Extension) → unwrap_or (field_of xs) [] ≡ xs
field-list [] = refl
field-list (x ∷ xs) = refl

pub profile-is : (t n : List ℕ) (text : CrlText) (is : IsCrlRead t n text) → length (scope_content text.uris.now text.reasons.now) ≤ 4194304
    → profile_fault (unlocated_list is.standing) ≡ left_fault (unlocated_list is.standing)
profile-is t n text is le =
    let l = is.standing in
    let xs : list_extensions (unlocated_list l) ≡ crl_extensions text = ap (λ (c : CertificateList). list_extensions c) is.same ∙ field-list (crl_extensions text) in
    only-left (unlocated_list l)
    (ap (λ (c : CertificateList). is_none c.tbsCertList.nextUpdate) is.same)
    (ap (λ (c : CertificateList). list_any names_issuer (entries_of c)) is.same ∙ no-issuers is.issued text.entries.now)
    (subst (λ (ys : List Extension). IsPlainScope (as_scope (value_among ListHolder IssuingDistributionPoint ys))) (sym xs) (plain-scope text le))
