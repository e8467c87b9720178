-- What the answer of making a certificate says.
use Rattle.std.proofs.Common.{◌≡◌, ℕ, ◌≤◌, ◌⊎◌, inl, inr, true, List, [], ◌∷◌, ◌++◌, length, Option, Some, None, Result, Ok, Err, refl, sym, ap, subst, ◌∙◌, arith}
use Rattle.std.specs.Prelude.{IfOk, IfErr, OnOk, is_ok, unwrap_or}
use Rattle.std.specs.declared.vec.Vec.{Vec}
use Rattle.std.specs.declared.alloc.Global.{Global}
use Rattle.std.proofs.lemmas.Slice.Eq.{bytes_eq-Decides}
use Rattle.ts_field.specs.declared.time.Time.{Time}
use Rattle.sha2.specs.Sha256.{sha256}
use Rattle.ts_der.specs.declared.fault.DerFault.TheVariants.{TimeForm}
use Rattle.ts_shape.specs.declared.fault.CertRule.TheVariants.{Der}
use Rattle.ts_shape.specs.declared.fault.CertFault.{CertFault}
use Rattle.ts_time.specs.Civil.{IsInYears}
use Rattle.ts_shape.specs.Fault.{breaks}
use Rattle.ts_cert.specs.Certificate.{Certificate, all_extensions}
use Rattle.ts_cert.specs.Reading.{unless_broken, certificate_of}
use Rattle.ts_cert.specs.declared.version.Version.TheVariants.{V3}
use Rattle.ts_cert.specs.Rules.{OptionalFields, extensions_fault}
use Rattle.ts_cert.proofs.FieldRules.{Has, KeepsRules, rules-again}
use Rattle.ts_shape.specs.Repeats.{first_repeated}
use Rattle.ts_ext.specs.declared.known.Holder.TheVariants.{Certificate as CertificateHolder}
use Rattle.ts_extensions.specs.Extension.{Extension}
use Rattle.ts_extensions.specs.ValueRules.{AreValid}
use Rattle.ts_make.specs.Extensions.{described_extensions, field_of}
use Rattle.ts_make.proofs.SignedRead.{signed-read}
use Rattle.ts_make.specs.declared.description.CertText.{CertText}
use Rattle.ts_make.specs.declared.fault.MakeFault.{MakeFault}
use Rattle.ts_make.specs.declared.fault.MakeFault.TheVariants.{Memory, TooLong, Unreadable}
use Rattle.ts_make.specs.Description.{IsDescribed, IsSignedBy, Says}
use Rattle.ts_make.specs.Sayable.{IsSayable, IfWritten}
use Rattle.ts_make.specs.Times.{IsTimeOf}
use Rattle.ts_make.specs.Made.{tbs_octets, made_certificate}
use Rattle.ts_make.specs.Making.{AnswersMade, AreAllowed, IsRefusal}
use Rattle.ts_make.proofs.OneTime.{in_years_or_not}
use Rattle.ts_make.proofs.SerialNumbers.{serial-is}
use Rattle.ts_make.proofs.Said.{tbs_said, said, time-said}
use Rattle.ts_make.proofs.Encoded.{fields-short, parts-short, signed-is}
use Rattle.ts_make.proofs.Refused.{IsOutside, certificate-refused}

-- both moments lie in the years 0 to 9999, or one does not
in_years : (text : CertText) → (IsInYears 0 9999 text.from × IsInYears 0 9999 text.to) ⊎ IsOutside text
in_years text =
    elim (in_years_or_not 0 9999 text.from) [
      | inr outside ↦ inr (inl outside)
      | inl from ↦ elim (in_years_or_not 0 9999 text.to) [
        | inr outside ↦ inr (inr (from, outside))
        | inl to ↦ inl (from, to)
      ]
    ]

-- what is made is read as the certificate that the description says, unless a rule of its extensions is broken
pub record IsRead (b a : List ℕ) (text : CertText) : Type 0 where
  pub before : Time
  pub after : Time
  pub not_before : Says before text.from
  pub not_after : Says after text.to
  pub late : OptionalFields
  pub has : Has (tbs_said before after text) late
  pub read : certificate_of (made_certificate b a text) ≡ unless_broken (extensions_fault V3 late) (said b a before after text)

pub is-read : (b a : List ℕ) (text : CertText) → IsSayable text → IsTimeOf b text.from → IsTimeOf a text.to → length (made_certificate b a text) ≤ 65536
    → IsInYears 0 9999 text.from → IsInYears 0 9999 text.to → IsRead b a text
is-read b a text sayable from to le from_in to_in =
    let parts = parts-short b a text (omega arith) in
    let fields = fields-short b a text parts.tbs in
    let before = time-said b text.from from from_in fields.before in
    let after = time-said a text.to to to_in fields.after in
    let whole = signed-read (made_certificate b a text) (said b a before.time after.time text) le (signed-is b a before.time after.time text sayable before.is after.is (omega arith)) refl in
    record {
      before = before.time;
      after = after.time;
      not_before = before.says;
      not_after = after.says;
      late = whole.0;
      has = whole.1;
      read = whole.2;
    }

-- what is read is the certificate where reading does not fail
kept : {A : Type 0} (o : Option CertFault) (x : A) → is_ok (unless_broken o x) ≡ true → unless_broken o x ≡ Ok x
kept None x ok = refl
kept (Some f) x ok = absurd cc

pub is-ok : (b a : List ℕ) (text : CertText) (is : IsRead b a text)
    → is_ok (certificate_of (made_certificate b a text)) ≡ true
    → certificate_of (made_certificate b a text) ≡ Ok (said b a is.before is.after text)
is-ok b a text is ok = is.read ∙ kept (extensions_fault V3 is.late) (said b a is.before is.after text) (sym (ap is_ok is.read) ∙ ok)

-- the list of a field
list-of : (xs : List Extension) → unwrap_or (field_of xs) [] ≡ xs
list-of [] = refl
list-of (x ∷ xs) = refl

-- allowed extensions break no rule
no-fault : (b a : List ℕ) (text : CertText) (is : IsRead b a text) → AreAllowed (described_extensions text.extensions.now) → extensions_fault V3 is.late ≡ None
no-fault b a text is allowed =
    let xs = described_extensions text.extensions.now in
    let same : all_extensions (tbs_said is.before is.after text) ≡ xs = list-of xs in
    let rules : KeepsRules (tbs_said is.before is.after text) =
    (tt, ap (λ (l : List Extension). first_repeated (λ x. x.extnID) [] l) same ∙ allowed.distinct, subst (AreValid CertificateHolder) (sym same) allowed.sound) in
    rules-again (tbs_said is.before is.after text) is.late is.has rules

ok_not_err : {A : Type 0} (r : Result A CertFault) (f : CertFault) → r ≡ Err f → is_ok r ≡ true → ⊥
ok_not_err (Ok x) f e ok = cc
ok_not_err (Err g) f e ok = cc

-- what is read lies in the years
pub years-of : (b a : List ℕ) (text : CertText) → IsSayable text → IsTimeOf b text.from → IsTimeOf a text.to → length (made_certificate b a text) ≤ 65536
    → is_ok (certificate_of (made_certificate b a text)) ≡ true → IsInYears 0 9999 text.from × IsInYears 0 9999 text.to
years-of b a text sayable from to le ok =
    elim (in_years text) [
      | inl years ↦ years
      | inr outside ↦ let refused = certificate-refused b a text sayable from to le outside in absurd (ok_not_err (certificate_of (made_certificate b a text)) _ refused.1 ok)
    ]

is-described : (b a : List ℕ) (text : CertText) → IsSayable text → (before after : Time) → Says before text.from → Says after text.to → IsDescribed text (said b a before after text)
is-described b a text sayable before after from to =
    let serial = serial-is text.serial sayable.serial in
    record {
      version = refl;
      serialNumber = serial.value;
      signature = refl;
      issuer = refl;
      not_before = from;
      not_after = to;
      subject = refl;
      keyAlgorithm = refl;
      subjectPublicKey = refl;
      issuerUniqueID = refl;
      subjectUniqueID = refl;
      extensions = refl;
      signatureAlgorithm = refl;
    }

is-signed : (b a : List ℕ) (text : CertText) (before after : Time) → IsSignedBy text.signer.now (said b a before after text)
is-signed b a text before after =
    let digest = sha256 (text.signer.now ++ tbs_octets b a text) in
    rw ((bytes_eq-Decides digest digest).1 refl) refl

-- ---- the clauses

pub answers-described : (r : Result (Vec ℕ Global) MakeFault) (b a : List ℕ) (text : CertText) → IfWritten r (IsSayable text) → IsTimeOf b text.from → IsTimeOf a text.to
    → AnswersMade r (made_certificate b a text) → IfOk r (λ v. (c : Certificate) × (certificate_of v.items ≡ Ok c) × IsDescribed text c)
answers-described (Ok v) b a text sayable from to h =
    let years = years-of b a text sayable from to h.1 h.2 in
    let is = is-read b a text sayable from to h.1 years.0 years.1 in
    (said b a is.before is.after text, ap certificate_of h.0 ∙ is-ok b a text is h.2, is-described b a text sayable is.before is.after is.not_before is.not_after)
answers-described (Err e) b a text sayable from to h = tt

pub answers-signed : (r : Result (Vec ℕ Global) MakeFault) (b a : List ℕ) (text : CertText) → IfWritten r (IsSayable text) → IsTimeOf b text.from → IsTimeOf a text.to
    → AnswersMade r (made_certificate b a text) → IfOk r (λ v. (c : Certificate) × (certificate_of v.items ≡ Ok c) × IsSignedBy text.signer.now c)
answers-signed (Ok v) b a text sayable from to h =
    let years = years-of b a text sayable from to h.1 h.2 in
    let is = is-read b a text sayable from to h.1 years.0 years.1 in
    (said b a is.before is.after text, ap certificate_of h.0 ∙ is-ok b a text is h.2, is-signed b a text is.before is.after)
answers-signed (Err e) b a text sayable from to h = tt

pub answers-years : (r : Result (Vec ℕ Global) MakeFault) (b a : List ℕ) (text : CertText) → IfWritten r (IsSayable text) → IsTimeOf b text.from → IsTimeOf a text.to
    → AnswersMade r (made_certificate b a text) → OnOk r (IsInYears 0 9999 text.from × IsInYears 0 9999 text.to)
answers-years (Ok v) b a text sayable from to h = years-of b a text sayable from to h.1 h.2
answers-years (Err e) b a text sayable from to h = tt

one-fault : (r : Result Certificate CertFault) (f g : CertFault) → r ≡ Err f → r ≡ Err g → f ≡ g
one-fault r f g e h = cc

refusal : (b a : List ℕ) (text : CertText) (fault : CertFault) → IsSayable text → IsTimeOf b text.from → IsTimeOf a text.to
    → length (made_certificate b a text) ≤ 65536 → certificate_of (made_certificate b a text) ≡ Err fault → IsRefusal text (Unreadable fault)
refusal b a text fault sayable from to le e =
    elim (in_years text) [
      | inl years ↦
          let is = is-read b a text sayable from to le years.0 years.1 in
          inr (λ allowed. ok_not_err (certificate_of (made_certificate b a text)) fault e
          (ap is_ok (is.read ∙ ap
          (λ (o : Option CertFault). unless_broken o (said b a is.before is.after text))
          (no-fault b a text is allowed))))
      | inr outside ↦
          let refused = certificate-refused b a text sayable from to le outside in
          let same = one-fault (certificate_of (made_certificate b a text)) fault (breaks refused.0 (Der TimeForm)) e refused.1 in
          inl (ap (λ (f : CertFault). f.kind) same, either outside)
    ]
  where
    either : IsOutside text → (IsInYears 0 9999 text.from → ⊥) ⊎ (IsInYears 0 9999 text.to → ⊥)
    either (inl outside) = inl outside
    either (inr outside) = inr outside.1

pub answers-refused : (r : Result (Vec ℕ Global) MakeFault) (b a : List ℕ) (text : CertText) → IfWritten r (IsSayable text) → IsTimeOf b text.from → IsTimeOf a text.to
    → AnswersMade r (made_certificate b a text) → IfErr r (IsRefusal text)
answers-refused (Ok v) b a text sayable from to h = tt
answers-refused (Err Memory) b a text sayable from to h = tt
answers-refused (Err TooLong) b a text sayable from to h = tt
answers-refused (Err (Unreadable fault)) b a text sayable from to h = refusal b a text fault sayable from to h.0 h.1
