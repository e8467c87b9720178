-- What checking octets to keep them answers.
use Rattle.std.proofs.Common.{◌≡◌, ℕ, List, Option, Some, None, Result, Ok, Err, sym, ap, subst, ◌∙◌, ◌⊎◌, inr}
use Rattle.std.specs.Prelude.{IsErrAnd}
use Rattle.ts_der.specs.Octets.{AreOctets}
use Rattle.ts_shape.specs.declared.fault.CertFault.{CertFault}
use Rattle.ts_crl.specs.declared.owned.CheckedParts.{CheckedParts}
use Rattle.ts_crl.specs.declared.owned.OwnedCrlFault.{OwnedCrlFault}
use Rattle.ts_crl.specs.declared.owned.OwnedCrlFault.TheVariants.{Memory, Unreadable}
use Rattle.ts_crl.specs.Fault.{ListFault, fault_in}
use Rattle.ts_crl.specs.inside.Kept.{first_place, Checks, HavePlace, WasRead}
use Rattle.ts_crl.specs.Kept.{unreadable_in, RefusedFor}
use Rattle.ts_crl.specs.List.{LocatedList}
use Rattle.ts_crl.specs.Reading.{shape_of}
use Rattle.ts_crl.specs.Table.{crl_fault, list_fault}
use Rattle.ts_crl.proofs.Borrowing.{faulted, none-some, quiet}

-- a list that breaks no rule was read
abbrev pub was-read : (first : Option CertFault) (octets : List ℕ) (l : LocatedList) → AreOctets octets → shape_of octets ≡ Ok l → list_fault l ≡ None
    → first ≡ first_place l.tbsCertList.revokedCertificates → WasRead first octets
was-read first octets l are_octets shape unbroken is = record {
  are_octets = are_octets;
  list = l;
  shape = shape;
  unbroken = unbroken;
  entries = subst (λ (o : Option CertFault). HavePlace o l.tbsCertList.revokedCertificates) (sym is) (quiet l unbroken);
}

-- memory ran out for what has to be known of a list
pub out-of-memory : (octets : List ℕ) (r : Result CheckedParts OwnedCrlFault) → IsErrAnd r (λ e. e ≡ Memory) → crl_fault octets ≡ None → Checks octets r
out-of-memory octets (Ok parts) is none = absurd is
out-of-memory octets (Err e) is none = subst (λ (f : OwnedCrlFault). Checks octets (Err f)) (sym is) none

-- the same answer, for a list that would be kept
pub not-kept : (octets : List ℕ) (e : OwnedCrlFault) (r : Result (List ℕ) OwnedCrlFault)
    → Checks octets (Err e) → IsErrAnd r (λ f. f ≡ e) → crl_fault octets ≡ None → (r ≡ Ok octets) ⊎ (r ≡ Err Memory)
not-kept octets e (Ok kept) checks is none = absurd is
not-kept octets Memory (Err f) checks is none = inr (ap (λ (g : OwnedCrlFault). Err g) is)
not-kept octets (Unreadable fault) (Err f) checks is none = absurd (none-some (fault_in fault) (sym none ∙ faulted octets (fault_in fault) checks))

pub refused : (octets : List ℕ) (e : OwnedCrlFault) (r : Result (List ℕ) OwnedCrlFault)
    → Checks octets (Err e) → IsErrAnd r (λ f. f ≡ e) → (f : ListFault) → crl_fault octets ≡ Some f → IsErrAnd r (λ g. unreadable_in g ≡ Some f)
refused octets e (Ok kept) checks is f some = absurd is
refused octets Memory (Err g) checks is f some = absurd (none-some f (sym checks ∙ some))
refused octets (Unreadable fault) (Err g) checks is f some = ap unreadable_in is ∙ (sym (faulted octets (fault_in fault) checks) ∙ some)
