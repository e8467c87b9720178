-- The whole: what is read is encoded so, and what is encoded so is read.
use Rattle.std.proofs.Common.{◌≡◌, ℕ, Bool, true, false, cond, List, Option, Some, None, Result, Ok, Err, refl, sym, ap, subst, ◌∙◌}
use Rattle.std.specs.Prelude.{option_map}
use Rattle.std.specs.Str.{bytes_eq}
use Rattle.std.proofs.lemmas.Slice.Eq.{bytes_eq-Decides}
use Rattle.ts_der.specs.Answer.{◌>>=◌}
use Rattle.ts_der.specs.Octets.{AreOctets}
use Rattle.ts_der.proofs.Laws.{bind_ok, ok_is}
use Rattle.ts_shape.specs.declared.fault.CertRule.TheVariants.{AlgorithmMismatch}
use Rattle.ts_shape.specs.declared.fault.CertFault.{CertFault}
use Rattle.ts_shape.specs.Fault.{breaks}
use Rattle.ts_shape.specs.Shape.{◌or_else◌}
use Rattle.ts_field.specs.Algorithm.{Algorithm}
use Rattle.ts_field.proofs.Algorithms.{one-algorithm}
use Rattle.ts_crl.specs.List.{LocatedList, CertificateList, unlocated_list}
use Rattle.ts_crl.specs.Reading.{shape_of}
use Rattle.ts_crl.specs.Encoding.{IsCertificateList}
use Rattle.ts_crl.specs.declared.extension_rule.ExtensionRule.TheVariants.{Repeated, Values}
use Rattle.ts_crl.specs.Fault.{ListFault, broken}
use Rattle.ts_crl.specs.Profile.{profile_fault}
use Rattle.ts_crl.specs.Rules.{fault_by_place, crl_version_fault, crl_algorithms_fault, placed_fault}
use Rattle.ts_crl.specs.Table.{list_fault, as_list, unless_broken, crl_of}
use Rattle.ts_crl.proofs.Keeping.{neither, both, unmapped, all-kept, all-keep, version-kept, version-keeps}
use Rattle.ts_crl.proofs.ListParts.{shape-found, shape-again}

-- a list that breaks no rule
unbroken : (l : LocatedList) (o : Option ListFault) (c : CertificateList) → unless_broken l o ≡ Ok c → (o ≡ None) × (unlocated_list l ≡ c)
unbroken l None c e = (refl, ok_is {E = ListFault} (unlocated_list l) c e)
unbroken l (Some f) c e = absurd cc

as-list-ok : (r : Result LocatedList CertFault) (l : LocatedList) → as_list r ≡ Ok l → r ≡ Ok l
as-list-ok (Ok x) l e = ap (λ (y : LocatedList). Ok y) (ok_is {E = ListFault} x l e)
as-list-ok (Err f) l e = absurd cc

-- one algorithm
agreed : (l : LocatedList) → crl_algorithms_fault l ≡ None → l.tbsCertList.signature.whole ≡ l.signatureAlgorithm.whole
agreed l e = by_test (bytes_eq l.tbsCertList.signature.whole l.signatureAlgorithm.whole) refl e
  where
    by_test : (b : Bool) → bytes_eq l.tbsCertList.signature.whole l.signatureAlgorithm.whole ≡ b
        → cond b None (Some (breaks l.identifier_at AlgorithmMismatch)) ≡ None
        → l.tbsCertList.signature.whole ≡ l.signatureAlgorithm.whole
    by_test true t e = (bytes_eq-Decides l.tbsCertList.signature.whole l.signatureAlgorithm.whole).0 t
    by_test false t e = absurd cc

agrees : (l : LocatedList) → l.tbsCertList.signature.whole ≡ l.signatureAlgorithm.whole → crl_algorithms_fault l ≡ None
agrees l e = rw ((bytes_eq-Decides l.tbsCertList.signature.whole l.signatureAlgorithm.whole).1 e) refl

pub crl-found : (octets : List ℕ) (c : CertificateList) → AreOctets octets → crl_of octets ≡ Ok c → IsCertificateList octets c
unfolding crl_of
crl-found octets c fits read =
    let b = bind_ok (as_list (shape_of octets)) (λ l. unless_broken l (list_fault l)) c read in
    let l = b.0 in
    let u = unbroken l (list_fault l) c b.2 in
    let w = shape-found octets l fits (as-list-ok (shape_of octets) l b.1) in
    let is = w.1.value in
    let rules = neither (option_map (λ f. broken f) (placed_fault l)) (profile_fault (unlocated_list l)) u.0 in
    let values = neither (crl_algorithms_fault l or_else crl_version_fault l.tbsCertList.version l
    or_else fault_by_place Repeated l) (fault_by_place Values l)
    (unmapped (λ f. broken f) (placed_fault l) rules.0) in
    let repeats = neither (crl_algorithms_fault l or_else crl_version_fault l.tbsCertList.version l) (fault_by_place Repeated l) values.0 in
    let front = neither (crl_algorithms_fault l) (crl_version_fault l.tbsCertList.version l) repeats.0 in
    let one = one-algorithm is.tbsCertList.value.algorithm is.identifier l.tbsCertList.signature l.signatureAlgorithm is.tbsCertList.value.signature is.signatureAlgorithm (agreed l front.0) in
    subst (λ (x : CertificateList). IsCertificateList octets x) u.1 (record {
      size = w.0;
      whole = w.1;
      agree = one;
      version = version-kept l.tbsCertList.version l w.2 front.1;
      distinct = all-kept Repeated l w.2 repeats.1;
      sound = all-kept Values l w.2 values.1;
      profile = rules.1;
    })

pub crl-again : (octets : List ℕ) (c : CertificateList) → IsCertificateList octets c → crl_of octets ≡ Ok c
unfolding crl_of
crl-again octets c is = joined (shape-again octets c is.size is.whole)
  where
    unbroken_is : (l : LocatedList) → IsCertificateList octets (unlocated_list l) → list_fault l ≡ None
    unbroken_is l is =
        let front = both (crl_algorithms_fault l) (crl_version_fault l.tbsCertList.version l)
        (agrees l (ap (λ (a : Algorithm). a.whole) is.agree))
        (version-keeps l.tbsCertList.version l is.version) in
        let repeats = both (crl_algorithms_fault l or_else crl_version_fault l.tbsCertList.version l) (fault_by_place Repeated l) front (all-keep Repeated l is.distinct) in
        let placed = both (crl_algorithms_fault l or_else crl_version_fault l.tbsCertList.version l or_else fault_by_place Repeated l) (fault_by_place Values l) repeats (all-keep Values l is.sound) in
        both (option_map (λ f. broken f) (placed_fault l)) (profile_fault (unlocated_list l)) (ap (λ (o : Option CertFault). option_map (λ f. broken f) o) placed) is.profile

    joined : (s : LocatedList) × (shape_of octets ≡ Ok s) × (unlocated_list s ≡ c) → (as_list (shape_of octets) >>= λ l. unless_broken l (list_fault l)) ≡ Ok c
    joined (s, read, same) =
        let none = unbroken_is s (subst (λ (x : CertificateList). IsCertificateList octets x) (sym same) is) in
        ap (λ (r : Result LocatedList CertFault). as_list r >>= λ l. unless_broken l (list_fault l))
        read ∙ (ap (λ (o : Option ListFault). unless_broken s o) none
        ∙ ap (λ (x : CertificateList). Ok x) same)
