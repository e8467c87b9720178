-- The rules that have a place, as statements about the extensions themselves.
use Rattle.std.proofs.Common.{◌≡◌, List, [], ◌∷◌, Option, Some, None, refl, sym, subst}
use Rattle.std.specs.Prelude.{map, unwrap_or}
use Rattle.std.specs.List.{AllByRecursion}
use Rattle.std.proofs.lemmas.Slice.Eq.{bytes_eq-Decides}
use Rattle.ts_shape.specs.Repeats.{first_repeated}
use Rattle.ts_shape.specs.Shape.{◌or_else◌}
use Rattle.ts_ext.specs.declared.known.Holder.TheVariants.{List as ListHolder, Entry}
use Rattle.ts_extensions.specs.Extension.{Extension}
use Rattle.ts_extensions.specs.ValueRules.{IsValid, AreValid}
use Rattle.ts_crl.specs.declared.extension_rule.ExtensionRule.TheVariants.{Repeated, Values}
use Rattle.ts_crl.specs.declared.version.ListVersion.TheVariants.{V2}
use Rattle.ts_crl.specs.Entries.{entries_of}
use Rattle.ts_crl.specs.List.{LocatedList, RevokedCertificate, unlocated_list}
use Rattle.ts_crl.specs.Rules.{as_ruled, fault_by_place, crl_algorithms_fault, crl_version_fault, placed_fault, KeepsIfAny, EntriesKeep}
use Rattle.ts_crl.proofs.Keeping.{both, all-keep}

-- an entry has one extension, whose value is one that it has
pub record HasOneValid (e : RevokedCertificate) : Type 0 where
  pub extension : Extension
  pub alone : e.crlEntryExtensions ≡ Some (extension ∷ [])
  pub sound : IsValid Entry extension

one-distinct : (es : List RevokedCertificate) → AllByRecursion HasOneValid es → EntriesKeep Repeated es
unfolding first_repeated
one-distinct [] all = tt
one-distinct (e ∷ es) all = (subst (λ (o : Option (List Extension)). KeepsIfAny Repeated Entry o) (sym all.0.alone) refl, one-distinct es all.1)

one-sound : (es : List RevokedCertificate) → AllByRecursion HasOneValid es → EntriesKeep Values es
one-sound [] all = tt
one-sound (e ∷ es) all = (subst (λ (o : Option (List Extension)). KeepsIfAny Values Entry o) (sym all.0.alone) (all.0.sound, tt), one-sound es all.1)

distinct-if-any : (o : Option (List Extension)) → first_repeated (λ x. x.extnID) [] (unwrap_or o []) ≡ None → KeepsIfAny Repeated ListHolder o
distinct-if-any None e = tt
distinct-if-any (Some xs) e = e

sound-if-any : (o : Option (List Extension)) → AreValid ListHolder (map as_ruled (unwrap_or o [])) → KeepsIfAny Values ListHolder o
sound-if-any None sound = tt
sound-if-any (Some xs) sound = sound

-- a list of version 2 and of one algorithm, whose entries have one extension each and whose own are distinct and sound, breaks
-- no rule that has a place
pub none-placed : (l : LocatedList) → l.tbsCertList.version ≡ V2 → l.tbsCertList.signature.whole ≡ l.signatureAlgorithm.whole → AllByRecursion HasOneValid (entries_of (unlocated_list l))
    → first_repeated (λ x. x.extnID) [] (unwrap_or (unlocated_list l).tbsCertList.crlExtensions [])
    ≡ None → AreValid ListHolder
    (map as_ruled (unwrap_or (unlocated_list l).tbsCertList.crlExtensions []))
    → placed_fault l ≡ None
none-placed l two one entries distinct sound =
    let own = (unlocated_list l).tbsCertList.crlExtensions in
    let algorithms : crl_algorithms_fault l ≡ None = rw ((bytes_eq-Decides l.tbsCertList.signature.whole l.signatureAlgorithm.whole).1 one) refl in
    let version : crl_version_fault l.tbsCertList.version l ≡ None = rw two refl in
    let front = both (crl_algorithms_fault l) (crl_version_fault l.tbsCertList.version l) algorithms version in
    let repeats = both (crl_algorithms_fault l or_else crl_version_fault l.tbsCertList.version l)
    (fault_by_place Repeated l) front
    (all-keep Repeated l (
      one-distinct (entries_of (unlocated_list l)) entries,
      distinct-if-any
          own distinct,
    )) in
    both (crl_algorithms_fault l or_else crl_version_fault l.tbsCertList.version l or_else fault_by_place Repeated l) (fault_by_place Values l) repeats
    (all-keep Values l (one-sound (entries_of (unlocated_list l)) entries, sound-if-any own sound))
