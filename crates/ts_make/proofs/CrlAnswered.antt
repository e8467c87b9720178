-- What the answer of making a CRL says.
use Rattle.std.proofs.Common.{◌≡◌, ℕ, ◌≤◌, ◌⊎◌, inl, inr, List, [], ◌∷◌, ◌++◌, length, Option, Some, None, Result, Ok, Err, refl, sym, ap, subst, ◌∙◌}
use Rattle.std.specs.Prelude.{IfOk, OnOk, option_map, unwrap_or, map}
use Rattle.std.specs.declared.vec.Vec.{Vec}
use Rattle.std.specs.declared.alloc.Global.{Global}
use Rattle.std.proofs.lemmas.Slice.Eq.{bytes_eq-Decides}
use Rattle.ts_field.specs.declared.time.Time.{Time}
use Rattle.sha2.specs.Sha256.{sha256}
use Rattle.ts_shape.specs.declared.fault.CertFault.{CertFault}
use Rattle.ts_shape.specs.Shape.{◌or_else◌}
use Rattle.ts_time.specs.Civil.{IsInYears}
use Rattle.ts_crl.specs.Fault.{ListFault, broken}
use Rattle.ts_crl.specs.List.{LocatedList, CertificateList, unlocated_list}
use Rattle.ts_crl.specs.Profile.{profile_fault}
use Rattle.ts_crl.specs.Reading.{shape_of}
use Rattle.ts_crl.specs.Rules.{placed_fault}
use Rattle.ts_crl.specs.Table.{list_fault, unless_broken, crl_of}
use Rattle.ts_crl.proofs.ListParts.{shape-again}
use Rattle.ts_make.specs.declared.crl_description.EntryText.{EntryText}
use Rattle.ts_make.specs.declared.crl_description.CrlText.{CrlText}
use Rattle.ts_make.specs.declared.fault.MakeFault.{MakeFault}
use Rattle.ts_make.specs.Description.{Says}
use Rattle.ts_make.specs.Sayable.{IfWritten}
use Rattle.ts_make.specs.Times.{IsTimeOf}
use Rattle.ts_make.specs.CrlMade.{crl_tbs, made_crl}
use Rattle.ts_make.specs.CrlMaking.{IsWhole, AnswersCrl, AreSerials, IsSayableCrl}
use Rattle.ts_make.specs.CrlDescription.{AreEntriesOf, IsCrlDescribed, IsCrlSignedBy}
use Rattle.ts_make.proofs.OneTime.{in_years_or_not}
use Rattle.ts_make.proofs.SerialNumbers.{serial-is}
use Rattle.ts_make.proofs.Said.{time-said}
use Rattle.ts_make.proofs.CrlEncoded.{entry_said, revoked_said, crl_said, list-fields-short, list-parts-short, list-signed-is}
use Rattle.ts_make.proofs.CrlRefused.{IsOutsideCrl, list-refused}

-- both moments lie in the years 0 to 9999, or one does not
pub in_years : (text : CrlText) → (IsInYears 0 9999 text.this_update × IsInYears 0 9999 text.next_update) ⊎ IsOutsideCrl text
in_years text =
    elim (in_years_or_not 0 9999 text.this_update) [
      | inr outside ↦ inr (inl outside)
      | inl from ↦ elim (in_years_or_not 0 9999 text.next_update) [
        | inr outside ↦ inr (inr (from, outside))
        | inl to ↦ inl (from, to)
      ]
    ]

-- what is made has the shape of the list that the description says
pub record IsCrlRead (t n : List ℕ) (text : CrlText) : Type 0 where
  pub issued : Time
  pub next : Time
  pub issued_at : Says issued text.this_update
  pub next_at : Says next text.next_update
  pub standing : LocatedList
  pub shape : shape_of (made_crl t n text) ≡ Ok standing
  pub same : unlocated_list standing ≡ crl_said t n issued next text

pub is-list-read : (t n : List ℕ) (text : CrlText) → IsSayableCrl text → IsTimeOf t text.this_update → IsTimeOf n text.next_update → length (made_crl t n text) ≤ 4194304
    → IsInYears 0 9999 text.this_update → IsInYears 0 9999 text.next_update → IsCrlRead t n text
is-list-read t n text sayable from to le from_in to_in =
    let parts = list-parts-short t n text le in
    let fields = list-fields-short t n text parts.tbs in
    let issued = time-said t text.this_update from from_in fields.issued in
    let next = time-said n text.next_update to to_in fields.next in
    let s = shape-again (made_crl t n text) (crl_said t n issued.time next.time text) le (list-signed-is t n issued.time next.time text sayable issued.is next.is le) in
    record { issued = issued.time; next = next.time; issued_at = issued.says; next_at = next.says; standing = s.0; shape = s.1; same = s.2 }

pub crl-read : (octets : List ℕ) (l : LocatedList) → shape_of octets ≡ Ok l → crl_of octets ≡ unless_broken l (list_fault l)
unfolding crl_of
crl-read octets l shape = rw shape refl

pub placed-none : (o : Option CertFault) (p : Option ListFault) (l : LocatedList) → IsWhole (unless_broken l (option_map (λ f. broken f) o or_else p)) → o ≡ None
placed-none None p l w = refl
placed-none (Some f) p l w = absurd w

-- where no rule that has a place is broken, those of the profile are left
pub profile-left : (l : LocatedList) → placed_fault l ≡ None → unless_broken l (list_fault l) ≡ unless_broken l (profile_fault (unlocated_list l))
profile-left l none = ap (λ (o : Option CertFault). unless_broken l (option_map (λ f. broken f) o or_else profile_fault (unlocated_list l))) none

-- ---- what it says

each-entry : (date : Time) (es : List EntryText) → AreSerials es → AreEntriesOf date es (map (entry_said date) es)
each-entry date [] small = tt
each-entry date (e ∷ es) small =
    let serial = serial-is e.serial small.0 in
    (record { userCertificate = serial.value; revocationDate = refl; crlEntryExtensions = refl }, each-entry date es small.1)

entries-said : (date : Time) (es : List EntryText) → AreSerials es → AreEntriesOf date es (unwrap_or (revoked_said date es) [])
entries-said date [] small = tt
entries-said date (e ∷ es) small = each-entry date (e ∷ es) small

no-entries : (date : Time) (es : List EntryText) → es ≡ [] → revoked_said date es ≡ None
no-entries date [] e = refl
no-entries date (x ∷ es) e = absurd cc

pub is-described : (t n : List ℕ) (text : CrlText) → IsSayableCrl text → (issued next : Time)
    → Says issued text.this_update → Says next text.next_update
    → IsCrlDescribed text (crl_said t n issued next text)
is-described t n text sayable issued next from to =
    record {
      version = refl;
      signature = refl;
      issuer = refl;
      thisUpdate = from;
      nextUpdate = (next, refl, to);
      revokedCertificates = entries-said issued text.entries.now sayable.entries;
      no_entries = no-entries issued text.entries.now;
      crlExtensions = refl;
      signatureAlgorithm = refl;
    }

is-signed : (t n : List ℕ) (text : CrlText) (issued next : Time) → IsCrlSignedBy text.signer.now (crl_said t n issued next text)
is-signed t n text issued next =
    let digest = sha256 (text.signer.now ++ crl_tbs t n text) in
    rw ((bytes_eq-Decides digest digest).1 refl) refl

not-whole : (r : Result CertificateList ListFault) (f : CertFault) → r ≡ Err (broken f) → IsWhole r → ⊥
not-whole r f e w = subst IsWhole e w

pub list-years : (t n : List ℕ) (text : CrlText) → IsSayableCrl text → IsTimeOf t text.this_update → IsTimeOf n text.next_update → length (made_crl t n text) ≤ 4194304
    → IsWhole (crl_of (made_crl t n text)) → IsInYears 0 9999 text.this_update × IsInYears 0 9999 text.next_update
list-years t n text sayable from to le w =
    elim (in_years text) [
      | inl years ↦ years
      | inr outside ↦ let refused = list-refused t n text sayable from to le outside in absurd (not-whole (crl_of (made_crl t n text)) _ refused.1 w)
    ]

-- ---- the clauses

pub answers-signed : (r : Result (Vec ℕ Global) MakeFault) (t n : List ℕ) (text : CrlText) → IfWritten r (IsSayableCrl text) → IsTimeOf t text.this_update → IsTimeOf n text.next_update
    → AnswersCrl IsWhole r (made_crl t n text) → IfOk r (λ v. (l : LocatedList) × (shape_of v.items ≡ Ok l) × IsCrlSignedBy text.signer.now (unlocated_list l))
answers-signed (Ok v) t n text sayable from to h =
    let years = list-years t n text sayable from to h.1 h.2 in
    let is = is-list-read t n text sayable from to h.1 years.0 years.1 in
    (is.standing, ap shape_of h.0 ∙ is.shape, subst (λ (c : CertificateList). IsCrlSignedBy text.signer.now c) (sym is.same) (is-signed t n text is.issued is.next))
answers-signed (Err e) t n text sayable from to h = tt

pub answers-years : (r : Result (Vec ℕ Global) MakeFault) (t n : List ℕ) (text : CrlText) → IfWritten r (IsSayableCrl text) → IsTimeOf t text.this_update → IsTimeOf n text.next_update
    → AnswersCrl IsWhole r (made_crl t n text) → OnOk r (IsInYears 0 9999 text.this_update × IsInYears 0 9999 text.next_update)
answers-years (Ok v) t n text sayable from to h = list-years t n text sayable from to h.1 h.2
answers-years (Err e) t n text sayable from to h = tt
