-- What a list or an entry says by an extension is the value that its octets encode.
use Rattle.std.proofs.Common.{◌≡◌, ℕ, Bool, true, false, cond, List, [], ◌∷◌, Option, Some, None, Result, refl, sym, ap, subst, ◌∙◌}
use Rattle.std.specs.Prelude.{map, option_map, unwrap_or, All, ℤ}
use Rattle.std.specs.List.{find}
use Rattle.std.specs.Str.{bytes_eq}
use Rattle.std.proofs.lemmas.List.Elements.{All-nil, All-cons}
use Rattle.std.proofs.lemmas.Slice.Eq.{bytes_eq-Decides}
use Rattle.ts_der.specs.declared.fault.Fault.{Fault}
use Rattle.ts_der.specs.Element.{encoded_at}
use Rattle.ts_shape.specs.Fields.{Within}
use Rattle.ts_ext.specs.declared.known.Holder.{Holder}
use Rattle.ts_ext.specs.declared.known.Holder.TheVariants.{List as ListHolder, Entry}
use Rattle.ts_ext.specs.declared.known.Known.{Known}
use Rattle.ts_ext.specs.declared.known.Known.TheVariants.{CrlNumber, DeltaCrlIndicator, IssuingDistributionPoint, AuthorityKeyIdentifier, ReasonCode as ReasonExtension, InvalidityDate}
use Rattle.ts_ext.specs.declared.reason_code.ReasonCode.{ReasonCode}
use Rattle.ts_ext.specs.AuthorityKey.{AuthorityKey, IsAuthorityKey}
use Rattle.ts_ext.specs.Encoding.{IsCrlNumber, IsReasonCode, IsInvalidityDate}
use Rattle.ts_ext.specs.Ext.{ExtValue, cRLNumber, authorityKeyIdentifier, reasonCode, invalidityDate, issuingDistributionPoint, layout_of, IsContent, IsExt, ext_of}
use Rattle.ts_extensions.specs.Extension.{Extension}
use Rattle.ts_ext.specs.Known.{known_at, list_extension, entry_extension, identifier_of}
use Rattle.ts_ext.specs.Points.{ListScope, IsIssuingPoint}
use Rattle.ts_extensions.specs.ValueRules.{IsValidValue, IsValid, AreValid}
use Rattle.ts_ext.proofs.Exts.{ext-again}
use Rattle.ts_crl.specs.declared.extension_rule.ExtensionRule.TheVariants.{Values}
use Rattle.ts_crl.specs.Encoding.{IsCertificateList}
use Rattle.ts_crl.specs.Entries.{entries_of}
use Rattle.ts_crl.specs.List.{RevokedCertificate, CertificateList}
use Rattle.ts_crl.specs.Profile.{as_scope, scope_of}
use Rattle.ts_crl.specs.Rules.{as_ruled, KeepsIfAny, EntriesKeep}
use Rattle.ts_extensions.specs.Stated.{IsValueOf, IsStated}
use Rattle.ts_crl.specs.Values.{is_known, list_extensions, entry_extensions_of, ok_of}
use Rattle.ts_crl.specs.Values.{value_in_octets, value_if_any, value_among, as_number, crl_number}
use Rattle.ts_crl.specs.Values.{with_number, base_number, as_key, key_of, as_reason, reason_of}
use Rattle.ts_crl.specs.Values.{as_date, date_of}

-- ---- the form of one extension

-- values in the form of one extension: octets encode one exactly where they encode the value alone, and it is given back
record Form {A : Type 0} (known : Known) (Is : List ℕ → A → Type 0) (back : Option ExtValue → Option A) : Type 0 where
  pub form : A → ExtValue
  pub formed : (octets : List ℕ) (v : A) → Is octets v → IsContent known octets (form v)
  pub unformed : (octets : List ℕ) (x : ExtValue) → IsContent known octets x → (v : A) × (x ≡ form v) × Is octets v
  pub given : (v : A) → back (Some (form v)) ≡ Some v
  pub none : back None ≡ None

scope-form : Form IssuingDistributionPoint IsIssuingPoint as_scope
scope-form = record { form = λ x. issuingDistributionPoint x; formed = λ o v is. (v, refl, is); unformed = λ o x is. is; given = λ v. refl; none = refl }

number-form : Form CrlNumber IsCrlNumber as_number
number-form = record { form = λ x. cRLNumber x; formed = λ o v is. (v, refl, is); unformed = λ o x is. is; given = λ v. refl; none = refl }

key-form : Form AuthorityKeyIdentifier IsAuthorityKey as_key
key-form = record { form = λ x. authorityKeyIdentifier x; formed = λ o v is. (v, refl, is); unformed = λ o x is. is; given = λ v. refl; none = refl }

reason-form : Form ReasonExtension IsReasonCode as_reason
reason-form = record { form = λ x. reasonCode x; formed = λ o v is. (v, refl, is); unformed = λ o x is. is; given = λ v. refl; none = refl }

date-form : Form InvalidityDate IsInvalidityDate as_date
date-form = record { form = λ x. invalidityDate x; formed = λ o v is. (v, refl, is); unformed = λ o x is. is; given = λ v. refl; none = refl }

-- ---- octets

-- octets that encode a value are read as that value
value-read : {A : Type 0} {known : Known} {Is : List ℕ → A → Type 0} {back : Option ExtValue → Option A} → Form known Is back
    → (octets : List ℕ) (v : A) → Within (layout_of known).tag Is octets v → back (value_in_octets (Some known) octets) ≡ Some v
unfolding value_in_octets
value-read {A} {known} {Is} {back} f octets v is =
    let whole : IsExt (Some known) octets (f.form v) = record { content = is.content; fits = is.fits; encoded = is.encoded; value = f.formed is.content v is.value } in
    ap (λ (r : Result ExtValue Fault). back (ok_of r)) (ext-again (Some known) (encoded_at 0 0x04 octets) (f.form v) whole) ∙ f.given v

-- octets that are valid as an extension encode a value
value-encoded : {A : Type 0} {known : Known} {Is : List ℕ → A → Type 0} {back : Option ExtValue → Option A} → Form known Is back
    → (octets : List ℕ) → IsValidValue (Some known) octets → (v : A) × Within (layout_of known).tag Is octets v
value-encoded {A} {known} {Is} {back} f octets is =
    let w = is.1 in
    let v = f.unformed w.content is.0 w.value in
    (v.0, record { content = w.content; fits = w.fits; encoded = w.encoded; value = v.2 })

octets-stated : {A : Type 0} {known : Known} {Is : List ℕ → A → Type 0} {back : Option ExtValue → Option A} → Form known Is back
    → (k : Option Known) → k ≡ Some known → (octets : List ℕ) → IsValidValue k octets → IsValueOf (Within (layout_of known).tag Is) octets (back (value_in_octets k octets))
octets-stated {A} {known} {Is} {back} f k at octets valid =
    let w = value-encoded f octets (subst (λ (o : Option Known). IsValidValue o octets) at valid) in
    let says = value-read f octets w.0 w.1 in
    subst (λ (o : Option Known). IsValueOf (Within (layout_of known).tag Is) octets (back (value_in_octets o octets))) (sym at)
    ((w.0, says), λ v. (λ e. subst (λ (u : A). Within (layout_of known).tag Is octets u) (some_is (sym says ∙ e)) w.1, λ is. value-read f octets v is))
  where
    some_is : {a b : A} → Some a ≡ Some b → a ≡ b
    some_is h = cc

-- ---- the extension that stands

-- what is found among extensions is one of them, and is valid as they are
find-valid : (holder : Holder) (ruled : Extension → Extension) (p : Extension → Bool) (xs : List Extension) (x : Extension) → AreValid holder (map ruled xs) → find p xs ≡ Some x
    → IsValid holder (ruled x) × (p x ≡ true)
find-valid holder ruled p [] x are e = absurd cc
find-valid holder ruled p (y ∷ ys) x are e = by_test (p y) refl (find-valid holder ruled p ys x are.1) e
  where
    by_test : (b : Bool) → p y ≡ b → (find p ys ≡ Some x → IsValid holder (ruled x) × (p x ≡ true)) → cond b (Some y) (find p ys) ≡ Some x → IsValid holder (ruled x) × (p x ≡ true)
    by_test true t more e = subst (λ (z : Extension). IsValid holder (ruled z) × (p z ≡ true)) (some_is e) (are.0, t)
      where
        some_is : {a b : Extension} → Some a ≡ Some b → a ≡ b
        some_is h = cc
    by_test false t more e = more e

-- what is said by an extension whose value keeps its own rules
stated-among : {A : Type 0} {known : Known} {Is : List ℕ → A → Type 0} {back : Option ExtValue → Option A} → Form known Is back
    → (holder : Holder) (ruled : Extension → Extension) → ((x : Extension) → x.extnID ≡ identifier_of known → ruled x ≡ x) → known_at holder (identifier_of known) ≡ Some known
    → (xs : List Extension) → AreValid holder (map ruled xs) → IsStated (Within (layout_of known).tag Is) (find (is_known known) xs) (back (value_among holder known xs))
stated-among {A} {known} {Is} {back} f holder ruled own here xs are = by_option (find (is_known known) xs) refl
  where
    by_option : (o : Option Extension) → find (is_known known) xs ≡ o → IsStated (Within (layout_of known).tag Is) o (back (value_if_any holder o))
    by_option None e = f.none
    by_option (Some x) e =
        let v = find-valid holder ruled (is_known known) xs x are e in
        let id : x.extnID ≡ identifier_of known = (bytes_eq-Decides x.extnID (identifier_of known)).0 v.1 in
        let valid : IsValid holder x = subst (λ (y : Extension). IsValid holder y) (own x id) v.0 in
        octets-stated f (known_at holder x.extnID) (ap (λ (o : List ℕ). known_at holder o) id ∙ here) x.extnValue valid

-- ---- lists

-- the extensions of a list, each under the object identifier whose rules its value keeps
list-valid : (octets : List ℕ) (c : CertificateList) → IsCertificateList octets c → AreValid ListHolder (map as_ruled (list_extensions c))
list-valid octets c is = by_option c.tbsCertList.crlExtensions is.sound.1
  where
    by_option : (o : Option (List Extension)) → KeepsIfAny Values ListHolder o → AreValid ListHolder (map as_ruled (unwrap_or o []))
    by_option None k = tt
    by_option (Some xs) k = k

-- the value of an extension that is not deltaCRLIndicator keeps its own rules
own-rules : (known : Known) → bytes_eq (identifier_of known) (identifier_of DeltaCrlIndicator) ≡ false → (x : Extension) → x.extnID ≡ identifier_of known → as_ruled x ≡ x
own-rules known differs x id =
    let other : is_known DeltaCrlIndicator x ≡ false = ap (λ (o : List ℕ). bytes_eq o (identifier_of DeltaCrlIndicator)) id ∙ differs in
    ap (λ (b : Bool). cond b (with_number x) x) other

at-scope : known_at ListHolder (identifier_of IssuingDistributionPoint) ≡ Some IssuingDistributionPoint
unfolding known_at list_extension
at-scope = refl

at-number : known_at ListHolder (identifier_of CrlNumber) ≡ Some CrlNumber
unfolding known_at list_extension
at-number = refl

at-key : known_at ListHolder (identifier_of AuthorityKeyIdentifier) ≡ Some AuthorityKeyIdentifier
unfolding known_at list_extension
at-key = refl

at-reason : known_at Entry (identifier_of ReasonExtension) ≡ Some ReasonExtension
unfolding known_at entry_extension
at-reason = refl

at-date : known_at Entry (identifier_of InvalidityDate) ≡ Some InvalidityDate
unfolding known_at entry_extension
at-date = refl

pub scope-stated : (octets : List ℕ) (c : CertificateList) → IsCertificateList octets c
    → IsStated (Within 0x30 IsIssuingPoint)
    (find (is_known IssuingDistributionPoint) (list_extensions c)) (scope_of c)
scope-stated octets c is = stated-among scope-form ListHolder as_ruled (own-rules IssuingDistributionPoint refl) at-scope (list_extensions c) (list-valid octets c is)

pub number-stated : (octets : List ℕ) (c : CertificateList) → IsCertificateList octets c → IsStated (Within 0x02 IsCrlNumber) (find (is_known CrlNumber) (list_extensions c)) (crl_number c)
number-stated octets c is = stated-among number-form ListHolder as_ruled (own-rules CrlNumber refl) at-number (list_extensions c) (list-valid octets c is)

pub key-stated : (octets : List ℕ) (c : CertificateList) → IsCertificateList octets c → IsStated (Within 0x30 IsAuthorityKey) (find (is_known AuthorityKeyIdentifier) (list_extensions c)) (key_of c)
key-stated octets c is = stated-among key-form ListHolder as_ruled (own-rules AuthorityKeyIdentifier refl) at-key (list_extensions c) (list-valid octets c is)

-- the value of deltaCRLIndicator keeps the rules of cRLNumber
pub base-stated : (octets : List ℕ) (c : CertificateList) → IsCertificateList octets c → IsStated (Within 0x02 IsCrlNumber) (find (is_known DeltaCrlIndicator) (list_extensions c)) (base_number c)
base-stated octets c is = by_option (find (is_known DeltaCrlIndicator) (list_extensions c)) refl
  where
    by_option : (o : Option Extension) → find (is_known DeltaCrlIndicator) (list_extensions c) ≡ o
        → IsStated (Within 0x02 IsCrlNumber) o
        (as_number (value_if_any ListHolder (option_map with_number o)))
    by_option None e = refl
    by_option (Some x) e =
        let v = find-valid ListHolder as_ruled (is_known DeltaCrlIndicator) (list_extensions c) x (list-valid octets c is) e in
        let valid : IsValid ListHolder (with_number x) = subst (λ (y : Extension). IsValid ListHolder y) (ap (λ (b : Bool). cond b (with_number x) x) v.1) v.0 in
        octets-stated number-form (known_at ListHolder (identifier_of CrlNumber)) at-number x.extnValue valid

-- ---- entries

as-they-are : (holder : Holder) (xs : List Extension) → AreValid holder xs → AreValid holder (map (λ x. x) xs)
as-they-are holder [] k = tt
as-they-are holder (x ∷ xs) k = (k.0, as-they-are holder xs k.1)

entry-valid : (e : RevokedCertificate) → KeepsIfAny Values Entry e.crlEntryExtensions → AreValid Entry (map (λ x. x) (entry_extensions_of e))
entry-valid e keeps = by_option e.crlEntryExtensions keeps
  where
    by_option : (o : Option (List Extension)) → KeepsIfAny Values Entry o → AreValid Entry (map (λ x. x) (unwrap_or o []))
    by_option None k = tt
    by_option (Some xs) k = as-they-are Entry xs k

-- what holds of an entry whose values keep their rules holds of each entry of a list
each-entry : (P : RevokedCertificate → Type 0) → ((e : RevokedCertificate) → KeepsIfAny Values Entry e.crlEntryExtensions → P e) → (es : List RevokedCertificate) → EntriesKeep Values es → All P es
each-entry P one [] k = All-nil P
each-entry P one (e ∷ es) k = All-cons P e es (one e k.0) (each-entry P one es k.1)

pub reason-stated : (octets : List ℕ) (c : CertificateList) → IsCertificateList octets c
    → All (λ e. IsStated (Within 0x0A IsReasonCode)
    (find (is_known ReasonExtension) (entry_extensions_of e)) (reason_of e)) (entries_of c)
reason-stated octets c is =
    each-entry (λ e. IsStated (Within 0x0A IsReasonCode) (find (is_known ReasonExtension) (entry_extensions_of e)) (reason_of e))
    (λ e keeps. stated-among reason-form Entry (λ x. x) (λ x id. refl) at-reason (entry_extensions_of e) (entry-valid e keeps)) (entries_of c) is.sound.0

pub date-stated : (octets : List ℕ) (c : CertificateList) → IsCertificateList octets c
    → All (λ e. IsStated (Within 0x18 IsInvalidityDate)
    (find (is_known InvalidityDate) (entry_extensions_of e)) (date_of e)) (entries_of c)
date-stated octets c is =
    each-entry (λ e. IsStated (Within 0x18 IsInvalidityDate) (find (is_known InvalidityDate) (entry_extensions_of e)) (date_of e))
    (λ e keeps. stated-among date-form Entry (λ x. x) (λ x id. refl) at-date (entry_extensions_of e) (entry-valid e keeps)) (entries_of c) is.sound.0
