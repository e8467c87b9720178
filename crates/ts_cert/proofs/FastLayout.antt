-- The layout of a certificate in the common form.
use Rattle.std.proofs.Common.{◌≡◌, ℕ, ◌≤◌, List, [], ◌++◌, length, drop, Some, None, refl, sym, ap, subst, ◌∙◌, arith}
use Rattle.std.proofs.lemmas.List.{append-nil, drop_all}
use Rattle.ts_der.specs.declared.bounds.ContentBounds.{ContentBounds}
use Rattle.ts_der.specs.Element.{encode}
use Rattle.ts_der.specs.Stands.{HavePart, between, HasElement}
use Rattle.ts_shape.specs.Fields.{Within, IsInteger, IsBits}
use Rattle.ts_name.specs.NameEncoding.{IsName}
use Rattle.ts_field.specs.Algorithm.{IsAlgorithm}
use Rattle.ts_cert.specs.declared.layout.Layout.{Layout}
use Rattle.ts_cert.specs.declared.version.Version.TheVariants.{V3}
use Rattle.ts_cert.specs.Certificate.{Tbs, Certificate}
use Rattle.ts_cert.specs.Layout.{AreLaidOut}
use Rattle.ts_cert.specs.inside.Layout.{Spans, IsRepeated, IsVersion3, AreValidExplicit}
use Rattle.ts_cert.specs.Encoding.{IsValidity, IsKeyInfo, IsTbs, IsSigned, IsCertificate, version_octets}
use Rattle.ts_cert.proofs.Spanned.{one-part, joined}

-- the parts of what is signed, one after another
pub record Parts (octets : List ℕ) (l : Layout) (tbs : ContentBounds) : Type 0 where
  pub version : IsVersion3 octets tbs.start l.serial_number
  pub serial_number : Spans (Within 0x02 IsInteger) octets l.serial_number l.signature
  pub signature : Spans (Within 0x30 IsAlgorithm) octets l.signature l.issuer
  pub issuer : Spans (Within 0x30 IsName) octets l.issuer l.validity
  pub validity : Spans (Within 0x30 IsValidity) octets l.validity l.subject
  pub subject : Spans (Within 0x30 IsName) octets l.subject l.subject_public_key_info
  pub key : Spans (Within 0x30 IsKeyInfo) octets l.subject_public_key_info l.extensions
  pub extensions : Spans (Within 0xA3 AreValidExplicit) octets l.extensions l.signature_algorithm

-- what they say
unlocated : (octets : List ℕ) (l : Layout) (tbs : ContentBounds) → Parts octets l tbs → Tbs
unlocated octets l tbs p =
    record {
      version = V3;
      serialNumber = p.serial_number.value;
      signature = p.signature.value;
      issuer = p.issuer.value;
      validity = p.validity.value;
      subject = p.subject.value;
      subjectPublicKeyInfo = p.key.value;
      issuerUniqueID = None;
      subjectUniqueID = None;
      extensions = Some p.extensions.value;
    }

is-unlocated : (octets : List ℕ) (l : Layout) (tbs : ContentBounds) (p : Parts octets l tbs)
    → HavePart octets tbs.start (between octets tbs) tbs.end → l.signature_algorithm ≡ tbs.end
    → IsTbs (between octets tbs) (unlocated octets l tbs p)
unfolding unlocated
is-unlocated octets l tbs p inner ends =
    let e = p.extensions in
    let last : HavePart octets l.extensions e.part tbs.end = subst (λ (n : ℕ). HavePart octets l.extensions e.part n) ends e.here in
    let y6 : List ℕ = p.key.part ++ e.part in
    let y5 : List ℕ = p.subject.part ++ y6 in
    let y4 : List ℕ = p.validity.part ++ y5 in
    let y3 : List ℕ = p.issuer.part ++ y4 in
    let y2 : List ℕ = p.signature.part ++ y3 in
    let y1 : List ℕ = p.serial_number.part ++ y2 in
    let h6 = joined octets p.key.part e.part l.subject_public_key_info l.extensions tbs.end p.key.here last in
    let h5 = joined octets p.subject.part y6 l.subject l.subject_public_key_info tbs.end p.subject.here h6 in
    let h4 = joined octets p.validity.part y5 l.validity l.subject tbs.end p.validity.here h5 in
    let h3 = joined octets p.issuer.part y4 l.issuer l.validity tbs.end p.issuer.here h4 in
    let h2 = joined octets p.signature.part y3 l.signature l.issuer tbs.end p.signature.here h3 in
    let h1 = joined octets p.serial_number.part y2 l.serial_number l.signature tbs.end p.serial_number.here h2 in
    let h0 = joined octets (version_octets V3) y1 tbs.start l.serial_number tbs.end p.version.here h1 in
    record {
      serial = p.serial_number.part;
      algorithm = p.signature.part;
      issued_by = p.issuer.part;
      period = p.validity.part;
      issued_to = p.subject.part;
      key = p.key.part;
      issuer_id = [];
      subject_id = [];
      last = e.part;
      serialNumber = p.serial_number.encoded;
      signature = p.signature.encoded;
      issuer = p.issuer.encoded;
      validity = p.validity.encoded;
      subject = p.subject.encoded;
      subjectPublicKeyInfo = p.key.encoded;
      issuerUniqueID = refl;
      subjectUniqueID = refl;
      extensions = record { content = e.encoded.content; fits = e.encoded.fits; encoded = e.encoded.encoded; value = e.encoded.value.0 };
      fields = one-part octets (between octets tbs) (version_octets V3 ++ y1) tbs.start tbs.end inner h0;
    }

-- and what is beside it
pub record Beside (octets : List ℕ) (l : Layout) (whole tbs : ContentBounds) : Type 0 where
  pub outer : HasElement octets 0 0x30 whole
  pub inner : HasElement octets whole.start 0x30 tbs
  pub ends : l.signature_algorithm ≡ tbs.end
  pub again : IsRepeated octets l.signature_algorithm l.signature l.issuer l.signature_value
  pub signature_value : Spans (Within 0x03 IsBits) octets l.signature_value whole.end
  pub all : whole.end ≡ length octets
  pub few : length octets ≤ 65536

-- the layout says no more than that
pub record IsPlain (l : Layout) (whole : ContentBounds) : Type 0 where
  pub version : l.version ≡ V3
  pub tbs : l.tbs ≡ whole.start
  pub issuer_unique_id : l.issuer_unique_id ≡ l.extensions
  pub subject_unique_id : l.subject_unique_id ≡ l.extensions

pub fast-laid-out : (octets : List ℕ) (l : Layout) (whole tbs : ContentBounds) → IsPlain l whole → Beside octets l whole tbs → Parts octets l tbs → AreLaidOut octets l
unfolding unlocated is-unlocated
fast-laid-out octets l whole tbs plain b p =
    let fields : Tbs = unlocated octets l tbs p in
    let signed : List ℕ = encode 0x30 (between octets tbs) in
    let identifier : List ℕ = b.again.part in
    let bits : List ℕ = b.signature_value.part in
    let is = is-unlocated octets l tbs p b.inner.inner b.ends in
    let same : p.signature.part ≡ identifier = one-part octets p.signature.part identifier l.signature l.issuer p.signature.here b.again.first in
    let at_tbs : HavePart octets whole.start signed l.signature_algorithm = subst (λ (n : ℕ). HavePart octets whole.start signed n) (sym b.ends) b.inner.whole in
    let behind = joined octets identifier bits l.signature_algorithm l.signature_value whole.end b.again.second b.signature_value.here in
    let content = one-part octets (between octets whole) (signed ++ (identifier ++ bits))
    whole.start whole.end b.outer.inner
    (joined octets signed (identifier ++ bits) whole.start l.signature_algorithm whole.end
    at_tbs behind) in
    let none : drop whole.end octets ≡ [] = drop_all whole.end octets (omega (arith, b.all)) in
    let encoded : octets ≡ encode 0x30 (between octets whole) = b.outer.whole ∙ (ap (λ (r : List ℕ). encode 0x30 (between octets whole) ++ r) none ∙ append-nil (encode 0x30 (between octets whole))) in
    let cert : Certificate = record { tbs = signed; tbsCertificate = fields; signatureAlgorithm = p.signature.value; signatureValue = b.signature_value.value } in
    let value : IsSigned (between octets whole) cert =
    record {
      identifier = identifier;
      bits = bits;
      tbsCertificate = record { content = between octets tbs; fits = b.inner.fits; encoded = refl; value = is };
      signatureAlgorithm = subst (λ (o : List ℕ). Within 0x30 IsAlgorithm o p.signature.value) same p.signature.encoded;
      signatureValue = b.signature_value.encoded;
      fields = content;
    } in
    let certificate : IsCertificate octets cert =
    record {
      size = b.few;
      whole = record { content = between octets whole; fits = b.outer.fits; encoded = encoded; value = value };
      agree = refl;
      version = tt;
      distinct = p.extensions.encoded.value.1;
      sound = p.extensions.encoded.value.2;
    } in (
      cert,
      certificate,
      record {
        tbs = record { here = subst (λ (n : ℕ). HavePart octets n signed l.signature_algorithm) (sym plain.tbs) at_tbs; begins = omega (arith, plain.tbs, b.outer.ordered, b.outer.within) };
        fields = record {
          version = plain.version;
          serial_number = record { here = p.serial_number.here; begins = p.version.ends };
          signature = record { here = p.signature.here; begins = p.serial_number.ends };
          issuer = record { here = p.issuer.here; begins = p.signature.ends };
          validity = record { here = p.validity.here; begins = p.issuer.ends };
          subject = record { here = p.subject.here; begins = p.validity.ends };
          subject_public_key_info = record { here = p.key.here ∙ ap (λ (n : ℕ). p.key.part ++ drop n octets) (sym plain.issuer_unique_id); begins = p.subject.ends };
          issuer_unique_id = record { here = ap (λ (n : ℕ). drop n octets) (plain.issuer_unique_id ∙ sym plain.subject_unique_id); begins = omega (arith, plain.issuer_unique_id, p.key.ends) };
          subject_unique_id = record { here = ap (λ (n : ℕ). drop n octets) plain.subject_unique_id; begins = omega (arith, plain.subject_unique_id, p.key.ends) };
          extensions = record { here = p.extensions.here; begins = p.key.ends };
        };
        signature_algorithm = record { here = b.again.second; begins = p.extensions.ends };
        signature_value = record { here = subst (λ (n : ℕ). HavePart octets l.signature_value bits n) b.all b.signature_value.here; begins = b.again.ends };
      },
    )
