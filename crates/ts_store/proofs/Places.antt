-- The table of trust anchors before and after a command.
use Rattle.std.proofs.Common.{◌≡◌, ◌⊎◌, ⊎_elim, ◌+◌, ◌<◌, ℕ, zero, suc, Bool, true, false, List, [], ◌∷◌, ◌++◌, length, get_or, refl, ◌∙◌, ap, subst, arith, Option, Some, None, Result, Ok, Err}
use Rattle.std.specs.Prelude.{is_some, slice_set}
use Rattle.sha2.specs.Sha256.{sha256}
use Rattle.ts_shape.specs.declared.fault.CertFault.{CertFault}
use Rattle.ts_cert.specs.Table.{certificate_fault}
use Rattle.ts_cert.specs.declared.owned.OwnedCert.{OwnedCert}
use Rattle.ts_cert.specs.declared.owned.OwnedCertFault.{OwnedCertFault}
use Rattle.ts_cert.specs.declared.owned.OwnedCertFault.TheVariants.{Memory, Unreadable}
use Rattle.ts_store.specs.Anchors.{place_of, new_refusal, add_unless, add_anchor, refuse_if, with_purposes, set_at, set_purposes}
use Rattle.ts_store.specs.Changes.{Becomes}
use Rattle.ts_store.specs.declared.anchor.TrustAnchor.{TrustAnchor}
use Rattle.ts_command.specs.declared.outcome.Refusal.{Refusal}
use Rattle.ts_command.specs.declared.outcome.Refusal.TheVariants.{Malformed}

-- a place after others
abbrev pub behind : ℕ → Option ℕ → Option ℕ
behind i None = None
behind i (Some k) = Some (i + k)

-- what reading answered says whether the octets are a certificate
abbrev pub IfKept : List ℕ → Result OwnedCert OwnedCertFault → Type 0
IfKept certificate result = certificate_fault certificate ≡ None → (result ≡ Ok certificate) ⊎ (result ≡ Err Memory)

abbrev pub IfRefused : List ℕ → Result OwnedCert OwnedCertFault → Type 0
IfRefused certificate result = (f : CertFault) → certificate_fault certificate ≡ Some f → result ≡ Err (Unreadable f)

pub unreadable : (certificate : List ℕ) (anchors : List TrustAnchor) (f : CertFault)
    → IfKept certificate (Err (Unreadable f))
    → Becomes (Some Malformed) anchors anchors (add_anchor certificate anchors)
unreadable certificate anchors f kept = by (certificate_fault certificate) kept
  where
    by : (o : Option CertFault)
        → (o ≡ None → (◌≡◌ {A = Result OwnedCert OwnedCertFault} (Err (Unreadable f))
        (Ok certificate)) ⊎ (◌≡◌ {A = Result OwnedCert OwnedCertFault} (Err (Unreadable f))
        (Err Memory))) → Becomes (Some Malformed) anchors anchors
        (refuse_if (is_some o) Malformed
        (add_unless (new_refusal (sha256 certificate) anchors) certificate anchors))
    by (Some g) h = (refl, refl)
    by None h = absurd (⊎_elim (λ e. cc e) (λ e. cc e) (h refl))

readable : (o : Option CertFault) (x : OwnedCert) → ((f : CertFault) → o ≡ Some f → ◌≡◌ {A = Result OwnedCert OwnedCertFault} (Ok x) (Err (Unreadable f))) → is_some o ≡ false
readable None x h = refl
readable (Some f) x h = absurd (cc (h f refl))

by_new : (certificate : List ℕ) (anchors new : List TrustAnchor) (answer : Option Refusal)
    (test : Bool) (refusal : Option Refusal) → test ≡ false
    → Becomes answer anchors new (add_unless refusal certificate anchors)
    → Becomes answer anchors new (refuse_if test Malformed (add_unless refusal certificate anchors))
by_new certificate anchors new answer true refusal is h = absurd (cc is)
by_new certificate anchors new answer false refusal is h = h

pub not_new : (certificate : List ℕ) (anchors : List TrustAnchor) (id : List ℕ)
    (list : List TrustAnchor) (x : OwnedCert) (refusal : Refusal) → IfRefused certificate (Ok x)
    → id ≡ sha256 certificate → list ≡ anchors → Some refusal ≡ new_refusal id list
    → Becomes (Some refusal) anchors anchors (add_anchor certificate anchors)
not_new certificate anchors id list x refusal read same all is =
    let refused = is ∙ ap (λ i. new_refusal i list) same ∙ ap (new_refusal (sha256 certificate)) all in
    by_new certificate anchors anchors (Some refusal) _ (new_refusal (sha256 certificate) anchors) (readable (certificate_fault certificate) x read)
    (subst (λ r. Becomes (Some refusal) anchors anchors (add_unless r certificate anchors)) refused (refl, refl))

abbrev ok_or : OwnedCert → Result OwnedCert OwnedCertFault → OwnedCert
ok_or x (Ok y) = y
ok_or x (Err e) = x

-- what is kept are the octets
kept_is : (certificate : OwnedCert) (x : OwnedCert) (o : Option CertFault)
    → (o ≡ None → (◌≡◌ {A = Result OwnedCert OwnedCertFault} (Ok x) (Ok certificate))
    ⊎ (◌≡◌ {A = Result OwnedCert OwnedCertFault} (Ok x) (Err Memory)))
    → ((f : CertFault) → o ≡ Some f → ◌≡◌ {A = Result OwnedCert OwnedCertFault} (Ok x) (Err (Unreadable f))) → x ≡ certificate
kept_is certificate x None kept refused = ⊎_elim (λ e. ap (ok_or x) e) (λ e. absurd (cc e)) (kept refl)
kept_is certificate x (Some f) kept refused = absurd (cc (refused f refl))

pub is_added : (certificate : List ℕ) (anchors new : List TrustAnchor) (id : List ℕ)
    (list : List TrustAnchor) (x : OwnedCert) (purposes : Option (List (List ℕ)))
    → IfKept certificate (Ok x) → IfRefused certificate (Ok x) → id ≡ sha256 certificate
    → list ≡ anchors → None ≡ new_refusal id list
    → purposes ≡ None → new ≡ anchors ++ record { id = id; certificate = x; purposes = purposes } ∷ [] → Becomes None anchors new (add_anchor certificate anchors)
is_added certificate anchors new id list x purposes kept read same all is any new_is =
    let free = is ∙ ap (λ i. new_refusal i list) same ∙ ap (new_refusal (sha256 certificate)) all in
    let octets = kept_is certificate x (certificate_fault certificate) kept read in
    by_new certificate anchors new None _ (new_refusal (sha256 certificate) anchors) (readable (certificate_fault certificate) x read)
    (subst (λ r. Becomes None anchors new (add_unless r certificate anchors)) free (refl, new_is ∙ (λ i. anchors ++ record { id = same i; certificate = octets i; purposes = any i } ∷ [])))

set_here : (anchors : List TrustAnchor) (i : ℕ) (anchor : TrustAnchor)
    (purposes : Option (List (List ℕ))) → i < length anchors → anchor ≡ get_or anchors i anchor
    → slice_set anchors i (record anchor { purposes = purposes }) ≡ with_purposes anchors i purposes
set_here [] i anchor purposes more is = absurd (omega (arith, more))
set_here (a ∷ anchors) zero anchor purposes more is = ap (λ (b : TrustAnchor). record b { purposes = purposes } ∷ anchors) is
set_here (a ∷ anchors) (suc i) anchor purposes more is = ap (λ l. a ∷ l) (set_here anchors i anchor purposes (omega (arith, more)) is)

pub is_set : (anchors : List TrustAnchor) (id : List ℕ) (i : ℕ) (anchor : TrustAnchor)
    (purposes copy : Option (List (List ℕ))) → Some i ≡ place_of id anchors → i < length anchors
    → anchor ≡ get_or anchors i anchor → copy ≡ purposes
    → Becomes None anchors (slice_set anchors i (record anchor { purposes = copy })) (set_purposes id purposes anchors)
is_set anchors id i anchor purposes copy place more is same =
    subst (λ p. Becomes None anchors (slice_set anchors i (record anchor { purposes = copy })) (set_at anchors purposes p)) place
    (refl, set_here anchors i anchor copy more is ∙ ap (with_purposes anchors i) same)
