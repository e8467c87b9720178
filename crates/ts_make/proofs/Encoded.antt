-- What is made is the encoding of the certificate that the description says.
use Rattle.std.proofs.Common.{ℕ, ◌≤◌, List, [], ◌++◌, length, refl, arith, length-append}
use Rattle.ts_field.specs.declared.time.Time.{Time}
use Rattle.ts_field.specs.Time.{IsTime}
use Rattle.sha2.specs.Sha256.{sha256}
use Rattle.ts_der.specs.Element.{encode}
use Rattle.ts_sig.specs.StandIn.{algorithm_identifier}
use Rattle.ts_cert.specs.declared.version.Version.TheVariants.{V3}
use Rattle.ts_shape.specs.Fields.{Within}
use Rattle.ts_cert.specs.Encoding.{IsTbs, IsSigned, version_octets}
use Rattle.ts_make.specs.declared.description.CertText.{CertText}
use Rattle.ts_make.specs.Serial.{serial_content}
use Rattle.ts_make.specs.Sayable.{IsSayable}
use Rattle.ts_make.specs.Made.{bit_octets, name_octets, key_octets, tbs_content, tbs_octets, made_certificate}
use Rattle.ts_make.proofs.StandIns.{content-short, fits-sequence, algorithm-is, bits-are, key-is}
use Rattle.ts_make.proofs.SerialNumbers.{serial-encoded}
use Rattle.ts_make.specs.Extensions.{described_extensions, field_octets}
use Rattle.ts_make.proofs.NameForms.{name-is}
use Rattle.ts_make.proofs.ExtensionForms.{described-known, field-is}
use Rattle.ts_make.proofs.Said.{tbs_said, said}

-- no field of what is signed is longer than all
pub record FieldsShort (b a : List ℕ) (text : CertText) : Type 0 where
  pub content : length (tbs_content b a text) ≤ 4194304
  pub serial : length (encode 0x02 (serial_content text.serial)) ≤ 4194304
  pub issuer : length (name_octets text.issuer.now) ≤ 4194304
  pub period : length (encode 0x30 (b ++ a)) ≤ 4194304
  pub times : length (b ++ a) ≤ 4194304
  pub before : length b ≤ 4194304
  pub after : length a ≤ 4194304
  pub subject : length (name_octets text.subject.now) ≤ 4194304
  pub key : length (key_octets text.key.now) ≤ 4194304
  pub extensions : length (field_octets (described_extensions text.extensions.now)) ≤ 4194304

parts : (v s g i p u k x : List ℕ) → length (v ++ (s ++ (g ++ (i ++ (p ++ (u ++ (k ++ x))))))) ≤ 4194304
    → (length s ≤ 4194304) × (length i ≤ 4194304) × (length p ≤ 4194304) × (length u ≤ 4194304) × (length k ≤ 4194304) × (length x ≤ 4194304)
parts v s g i p u k x le =
    let e1 = length-append v (s ++ (g ++ (i ++ (p ++ (u ++ (k ++ x)))))) in
    let e2 = length-append s (g ++ (i ++ (p ++ (u ++ (k ++ x))))) in
    let e3 = length-append g (i ++ (p ++ (u ++ (k ++ x)))) in
    let e4 = length-append i (p ++ (u ++ (k ++ x))) in
    let e5 = length-append p (u ++ (k ++ x)) in
    let e6 = length-append u (k ++ x) in
    let e7 = length-append k x in
    (omega arith, omega arith, omega arith, omega arith, omega arith, omega arith)

pub fields-short : (b a : List ℕ) (text : CertText) → length (tbs_octets b a text) ≤ 4194304 → FieldsShort b a text
unfolding tbs_octets tbs_content
fields-short b a text le =
    let within = content-short 0x30 (tbs_content b a text) in
    let all : length (tbs_content b a text) ≤ 4194304 = omega arith in
    let p = parts (version_octets V3) (encode 0x02 (serial_content text.serial))
    algorithm_identifier (name_octets text.issuer.now) (encode 0x30 (b ++ a))
    (name_octets text.subject.now) (key_octets text.key.now)
    (field_octets (described_extensions text.extensions.now)) all in
    let times = content-short 0x30 (b ++ a) in
    let both = length-append b a in
    record {
      content = all;
      serial = p.0;
      issuer = p.1;
      period = p.2;
      times = omega (arith, p.2);
      before = omega (arith, p.2);
      after = omega (arith, p.2);
      subject = p.3;
      key = p.4;
      extensions = p.5;
    }

tbs-is : (b a : List ℕ) (before after : Time) (text : CertText) → IsSayable text → IsTime b before → IsTime a after → length (tbs_octets b a text) ≤ 4194304
    → Within 0x30 IsTbs (tbs_octets b a text) (tbs_said before after text)
unfolding tbs_octets tbs_content
tbs-is b a before after text sayable from to le =
    let short = fields-short b a text le in
    record {
      content = tbs_content b a text;
      fits = fits-sequence (tbs_content b a text) short.content;
      encoded = refl;
      value = record {
        serial = encode 0x02 (serial_content text.serial);
        algorithm = algorithm_identifier;
        issued_by = name_octets text.issuer.now;
        period = encode 0x30 (b ++ a);
        issued_to = name_octets text.subject.now;
        key = key_octets text.key.now;
        issuer_id = [];
        subject_id = [];
        last = field_octets (described_extensions text.extensions.now);
        serialNumber = serial-encoded text.serial sayable.serial short.serial;
        signature = algorithm-is;
        issuer = name-is text.issuer.now sayable.issuer short.issuer;
        validity = record {
          content = b ++ a;
          fits = fits-sequence (b ++ a) short.times;
          encoded = refl;
          value = record { before = b; after = a; not_before = from; not_after = to; fields = refl };
        };
        subject = name-is text.subject.now sayable.subject short.subject;
        subjectPublicKeyInfo = key-is text.key.now short.key;
        issuerUniqueID = refl;
        subjectUniqueID = refl;
        extensions = field-is (described_extensions text.extensions.now) (described-known text.extensions.now) short.extensions;
        fields = refl;
      };
    }

-- what is signed is no longer than the certificate, nor is the signature
pub record PartsShort (b a : List ℕ) (text : CertText) : Type 0 where
  pub content : length (tbs_octets b a text ++ (algorithm_identifier ++ bit_octets (sha256 (text.signer.now ++ tbs_octets b a text)))) ≤ 4194304
  pub tbs : length (tbs_octets b a text) ≤ 4194304
  pub signature : length (bit_octets (sha256 (text.signer.now ++ tbs_octets b a text))) ≤ 4194304

pub parts-short : (b a : List ℕ) (text : CertText) → length (made_certificate b a text) ≤ 4194304 → PartsShort b a text
unfolding made_certificate
parts-short b a text le =
    let tbs = tbs_octets b a text in
    let bits = bit_octets (sha256 (text.signer.now ++ tbs)) in
    let content = tbs ++ (algorithm_identifier ++ bits) in
    let within = content-short 0x30 content in
    let e1 = length-append tbs (algorithm_identifier ++ bits) in
    let e2 = length-append algorithm_identifier bits in
    record { content = omega arith; tbs = omega arith; signature = omega arith }

pub signed-is : (b a : List ℕ) (before after : Time) (text : CertText) → IsSayable text → IsTime b before → IsTime a after → length (made_certificate b a text) ≤ 4194304
    → Within 0x30 IsSigned (made_certificate b a text) (said b a before after text)
unfolding made_certificate
signed-is b a before after text sayable from to le =
    let short = parts-short b a text le in
    let tbs = tbs_octets b a text in
    let bits = bit_octets (sha256 (text.signer.now ++ tbs)) in
    let content = tbs ++ (algorithm_identifier ++ bits) in
    record {
      content = content;
      fits = fits-sequence content short.content;
      encoded = refl;
      value = record {
        identifier = algorithm_identifier;
        bits = bits;
        tbsCertificate = tbs-is b a before after text sayable from to short.tbs;
        signatureAlgorithm = algorithm-is;
        signatureValue = bits-are (sha256 (text.signer.now ++ tbs)) short.signature;
        fields = refl;
      };
    }
