-- What is made is the encoding of the CRL that the description says.
use Rattle.std.proofs.Common.{ℕ, ◌<◌, ◌^◌, ◌≤◌, true, List, [], ◌∷◌, ◌++◌, length, Option, Some, None, refl, subst, arith, length-append}
use Rattle.std.specs.Prelude.{map}
use Rattle.std.proofs.lemmas.List.{append-nil}
use Rattle.std.specs.List.{flat_map}
use Rattle.ts_field.specs.declared.time.Time.{Time}
use Rattle.ts_field.specs.Time.{IsTime}
use Rattle.sha2.specs.Sha256.{sha256}
use Rattle.ts_der.specs.declared.oid.OidRef.{OidRef}
use Rattle.ts_der.specs.Element.{encode}
use Rattle.ts_der.specs.ObjectIdentifier.{is_oid, series_of, subidentifier}
use Rattle.ts_sig.specs.StandIn.{algorithm_identifier}
use Rattle.ts_shape.specs.Fields.{Within, IfAny}
use Rattle.ts_shape.specs.Items.{AreItems}
use Rattle.ts_extensions.specs.Extension.{Extension, IsExtension, AreExtensions}
use Rattle.ts_crl.specs.declared.version.ListVersion.TheVariants.{V2}
use Rattle.ts_crl.specs.List.{RevokedCertificate, TbsCertList, CertificateList}
use Rattle.ts_crl.specs.Encoding.{crl_version_octets, IsRevokedCertificate, AreRevoked, IsTbsCertList, IsSignedCrl}
use Rattle.ts_make.specs.declared.crl_description.EntryText.{EntryText}
use Rattle.ts_make.specs.declared.crl_description.CrlText.{CrlText}
use Rattle.ts_make.specs.Serial.{serial_content}
use Rattle.ts_make.specs.Description.{rdns_in, stand_in}
use Rattle.ts_make.specs.Extensions.{extension_octets, field_of, sequence_extension}
use Rattle.ts_make.specs.Made.{bit_octets, name_octets}
use Rattle.ts_make.specs.CrlExtensions.{reason_extension, number_extensions, base_extensions, scope_content, null_extension, crl_extensions, crl_field}
use Rattle.ts_make.specs.CrlMade.{entry_content, entry_octets, revoked_octets, crl_content, crl_tbs, made_crl}
use Rattle.ts_make.specs.CrlMaking.{AreSerials, IsSayableCrl}
use Rattle.ts_make.proofs.StandIns.{content-short, fits-sequence, algorithm-is, bits-are}
use Rattle.ts_make.proofs.SerialNumbers.{serial-encoded}
use Rattle.ts_make.proofs.NameForms.{name-is}
use Rattle.ts_make.proofs.ExtensionForms.{AreKnown, known-append, sequence-known, items-are}

-- ---- what the description says

abbrev pub entry_said : Time → EntryText → RevokedCertificate
entry_said date e = record { userCertificate = serial_content e.serial; revocationDate = date; crlEntryExtensions = Some (reason_extension e.reason ∷ []) }

abbrev pub revoked_said : Time → List EntryText → Option (List RevokedCertificate)
revoked_said date [] = None
revoked_said date (e ∷ es) = Some (map (entry_said date) (e ∷ es))

abbrev pub crl_tbs_said : Time → Time → CrlText → TbsCertList
crl_tbs_said issued next text =
    record {
      version = V2;
      signature = stand_in;
      issuer = rdns_in text.issuer.now;
      thisUpdate = issued;
      nextUpdate = Some next;
      revokedCertificates = revoked_said issued text.entries.now;
      crlExtensions = field_of (crl_extensions text);
    }

abbrev pub crl_said : List ℕ → List ℕ → Time → Time → CrlText → CertificateList
crl_said t n issued next text =
    record {
      tbs = crl_tbs t n text;
      tbsCertList = crl_tbs_said issued next text;
      signatureAlgorithm = stand_in;
      signatureValue = sha256 (text.signer.now ++ crl_tbs t n text);
    }

-- ---- entries

reason-known : (e : EntryText) → AreKnown (reason_extension e.reason ∷ [])
unfolding is_oid series_of subidentifier
reason-known e = (refl, tt)

reasons-are : (e : EntryText) → length (encode 0x30 (extension_octets (reason_extension e.reason))) ≤ 4194304
    → Within 0x30 AreExtensions (encode 0x30 (extension_octets (reason_extension e.reason))) (reason_extension e.reason ∷ [])
reasons-are e le =
    let x = reason_extension e.reason in
    let short = content-short 0x30 (extension_octets x) in
    let both = length-append (extension_octets x) [] in
    let items : AreItems (Within 0x30 IsExtension) (extension_octets x ++ []) (x ∷ []) = items-are (x ∷ []) (reason-known e) (omega arith) in
    record {
      content = extension_octets x;
      fits = fits-sequence (extension_octets x) (omega arith);
      encoded = refl;
      value = (λ none. absurd (cc), subst (λ (o : List ℕ). AreItems (Within 0x30 IsExtension) o (x ∷ [])) (append-nil (extension_octets x)) items);
    }

entry-is : (t : List ℕ) (date : Time) (e : EntryText) → IsTime t date → e.serial < 2 ^ 32 → length (entry_octets t e) ≤ 4194304
    → Within 0x30 IsRevokedCertificate (entry_octets t e) (entry_said date e)
unfolding entry_content
entry-is t date e is high le =
    let serial = encode 0x02 (serial_content e.serial) in
    let reason = encode 0x30 (extension_octets (reason_extension e.reason)) in
    let content = serial ++ (t ++ reason) in
    let whole = content-short 0x30 content in
    let first = length-append serial (t ++ reason) in
    let second = length-append t reason in
    record {
      content = content;
      fits = fits-sequence content (omega arith);
      encoded = refl;
      value = record {
        serial = serial;
        date = t;
        extensions = reason;
        userCertificate = serial-encoded e.serial high (omega arith);
        revocationDate = is;
        crlEntryExtensions = reasons-are e (omega arith);
        fields = refl;
      };
    }

entries-are : (t : List ℕ) (date : Time) (es : List EntryText) → IsTime t date → AreSerials es → length (flat_map (entry_octets t) es) ≤ 4194304
    → AreItems (Within 0x30 IsRevokedCertificate) (flat_map (entry_octets t) es) (map (entry_said date) es)
entries-are t date [] is small le = refl
entries-are t date (e ∷ es) is small le =
    let both = length-append (entry_octets t e) (flat_map (entry_octets t) es) in
    (entry_octets t e, flat_map (entry_octets t) es, entry-is t date e is small.0 (omega arith), refl, entries-are t date es is small.1 (omega arith))

revoked-is : (t : List ℕ) (date : Time) (es : List EntryText) → IsTime t date → AreSerials es → length (revoked_octets t es) ≤ 4194304
    → IfAny 0x30 AreRevoked (revoked_octets t es) (revoked_said date es)
unfolding revoked_octets
revoked-is t date [] is small le = refl
revoked-is t date (e ∷ es) is small le =
    let items = flat_map (entry_octets t) (e ∷ es) in
    let short = content-short 0x30 items in
    record { content = items; fits = fits-sequence items (omega arith); encoded = refl; value = entries-are t date (e ∷ es) is small (omega arith) }

-- ---- extensions

number-known : (n : Option ℕ) → AreKnown (number_extensions n)
unfolding is_oid series_of subidentifier
number-known None = tt
number-known (Some n) = (refl, tt)

base-known : (n : Option ℕ) → AreKnown (base_extensions n)
unfolding is_oid series_of subidentifier
base-known None = tt
base-known (Some n) = (refl, tt)

nulls-known : (oids : List OidRef) → AreKnown (map null_extension oids)
nulls-known [] = tt
nulls-known (oid ∷ oids) = (oid.form, nulls-known oids)

scope-known : (content : List ℕ) → AreKnown (sequence_extension 28 true content)
unfolding is_oid series_of subidentifier
scope-known content = sequence-known 28 true content refl

list-known : (text : CrlText) → AreKnown (crl_extensions text)
unfolding crl_extensions
list-known text =
    let scope = sequence_extension 28 true (scope_content text.uris.now text.reasons.now) in
    let nulls = map null_extension text.critical.now in
    let others = known-append scope nulls (scope-known (scope_content text.uris.now text.reasons.now)) (nulls-known text.critical.now) in
    known-append (number_extensions text.number) (base_extensions text.base ++ (scope ++ nulls))
    (number-known text.number)
    (known-append (base_extensions text.base) (scope ++ nulls) (base-known text.base) others)

list-field-is : (xs : List Extension) → AreKnown xs → length (crl_field xs) ≤ 4194304 → IfAny 0xA0 (Within 0x30 AreExtensions) (crl_field xs) (field_of xs)
unfolding crl_field
list-field-is [] known le = refl
list-field-is (x ∷ xs) known le =
    let items = flat_map extension_octets (x ∷ xs) in
    let list = encode 0x30 items in
    let whole = content-short 0xA0 list in
    let inner = content-short 0x30 items in
    record {
      content = list;
      fits = record { octet = omega arith; low = omega arith; short = omega arith };
      encoded = refl;
      value = record {
        content = items;
        fits = fits-sequence items (omega arith);
        encoded = refl;
        value = (λ none. absurd (cc), items-are (x ∷ xs) known (omega arith));
      };
    }

-- ---- what is signed

-- no field of what is signed is longer than all
pub record CrlFieldsShort (t n : List ℕ) (text : CrlText) : Type 0 where
  pub content : length (crl_content t n text) ≤ 4194304
  pub issuer : length (name_octets text.issuer.now) ≤ 4194304
  pub issued : length t ≤ 4194304
  pub next : length n ≤ 4194304
  pub revoked : length (revoked_octets t text.entries.now) ≤ 4194304
  pub extensions : length (crl_field (crl_extensions text)) ≤ 4194304

parts : (v g i t n r x : List ℕ) → length (v ++ (g ++ (i ++ (t ++ (n ++ (r ++ x)))))) ≤ 4194304
    → (length i ≤ 4194304) × (length t ≤ 4194304) × (length n ≤ 4194304) × (length r ≤ 4194304) × (length x ≤ 4194304)
parts v g i t n r x le =
    let e1 = length-append v (g ++ (i ++ (t ++ (n ++ (r ++ x))))) in
    let e2 = length-append g (i ++ (t ++ (n ++ (r ++ x)))) in
    let e3 = length-append i (t ++ (n ++ (r ++ x))) in
    let e4 = length-append t (n ++ (r ++ x)) in
    let e5 = length-append n (r ++ x) in
    let e6 = length-append r x in
    (omega arith, omega arith, omega arith, omega arith, omega arith)

pub list-fields-short : (t n : List ℕ) (text : CrlText) → length (crl_tbs t n text) ≤ 4194304 → CrlFieldsShort t n text
unfolding crl_tbs crl_content
list-fields-short t n text le =
    let within = content-short 0x30 (crl_content t n text) in
    let all : length (crl_content t n text) ≤ 4194304 = omega arith in
    let p = parts (crl_version_octets V2) algorithm_identifier (name_octets text.issuer.now) t n (revoked_octets t text.entries.now) (crl_field (crl_extensions text)) all in
    record { content = all; issuer = p.0; issued = p.1; next = p.2; revoked = p.3; extensions = p.4 }

list-tbs-is : (t n : List ℕ) (issued next : Time) (text : CrlText) → IsSayableCrl text → IsTime t issued → IsTime n next → length (crl_tbs t n text) ≤ 4194304
    → Within 0x30 IsTbsCertList (crl_tbs t n text) (crl_tbs_said issued next text)
unfolding crl_tbs crl_content
list-tbs-is t n issued next text sayable from to le =
    let short = list-fields-short t n text le in
    record {
      content = crl_content t n text;
      fits = fits-sequence (crl_content t n text) short.content;
      encoded = refl;
      value = record {
        algorithm = algorithm_identifier;
        issued_by = name_octets text.issuer.now;
        this = t;
        next = n;
        revoked = revoked_octets t text.entries.now;
        extensions = crl_field (crl_extensions text);
        signature = algorithm-is;
        issuer = name-is text.issuer.now sayable.issuer short.issuer;
        thisUpdate = from;
        nextUpdate = to;
        revokedCertificates = revoked-is t issued text.entries.now from sayable.entries short.revoked;
        crlExtensions = list-field-is (crl_extensions text) (list-known text) short.extensions;
        fields = refl;
      };
    }

-- what is signed is no longer than the list, nor is the signature
pub record CrlPartsShort (t n : List ℕ) (text : CrlText) : Type 0 where
  pub content : length (crl_tbs t n text ++ (algorithm_identifier ++ bit_octets (sha256 (text.signer.now ++ crl_tbs t n text)))) ≤ 4194304
  pub tbs : length (crl_tbs t n text) ≤ 4194304
  pub signature : length (bit_octets (sha256 (text.signer.now ++ crl_tbs t n text))) ≤ 4194304

pub list-parts-short : (t n : List ℕ) (text : CrlText) → length (made_crl t n text) ≤ 4194304 → CrlPartsShort t n text
unfolding made_crl
list-parts-short t n text le =
    let tbs = crl_tbs t n text in
    let bits = bit_octets (sha256 (text.signer.now ++ tbs)) in
    let content = tbs ++ (algorithm_identifier ++ bits) in
    let within = content-short 0x30 content in
    let e1 = length-append tbs (algorithm_identifier ++ bits) in
    let e2 = length-append algorithm_identifier bits in
    record { content = omega arith; tbs = omega arith; signature = omega arith }

pub list-signed-is : (t n : List ℕ) (issued next : Time) (text : CrlText) → IsSayableCrl text → IsTime t issued → IsTime n next → length (made_crl t n text) ≤ 4194304
    → Within 0x30 IsSignedCrl (made_crl t n text) (crl_said t n issued next text)
unfolding made_crl
list-signed-is t n issued next text sayable from to le =
    let short = list-parts-short t n text le in
    let tbs = crl_tbs t n text in
    let bits = bit_octets (sha256 (text.signer.now ++ tbs)) in
    let content = tbs ++ (algorithm_identifier ++ bits) in
    record {
      content = content;
      fits = fits-sequence content short.content;
      encoded = refl;
      value = record {
        identifier = algorithm_identifier;
        bits = bits;
        tbsCertList = list-tbs-is t n issued next text sayable from to short.tbs;
        signatureAlgorithm = algorithm-is;
        signatureValue = bits-are (sha256 (text.signer.now ++ tbs)) short.signature;
        fields = refl;
      };
    }
