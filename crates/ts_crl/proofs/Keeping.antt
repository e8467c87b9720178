-- Where the first rule of extensions that is broken is none, they keep the rules, and the other way round.
use Rattle.std.proofs.Common.{◌≡◌, ℕ, Bool, true, false, cond, List, [], ◌∷◌, Option, Some, None, refl, sym, ap, subst, ◌∙◌}
use Rattle.std.specs.Prelude.{map, option_map, unwrap_or}
use Rattle.ts_der.specs.Octets.{AreOctets}
use Rattle.ts_shape.specs.declared.fault.CertRule.TheVariants.{DuplicateExtension}
use Rattle.ts_shape.specs.Fault.{breaks}
use Rattle.ts_shape.specs.Repeats.{is_among, first_repeated}
use Rattle.ts_shape.specs.Shape.{◌or_else◌}
use Rattle.ts_ext.specs.declared.known.Holder.{Holder}
use Rattle.ts_ext.specs.declared.known.Holder.TheVariants.{Certificate, List as ListHolder, Entry}
use Rattle.ts_ext.specs.declared.known.Known.TheVariants.{DeltaCrlIndicator}
use Rattle.ts_extensions.specs.Extension.{Located, unlocated}
use Rattle.ts_extensions.specs.ValueRules.{AreValid}
use Rattle.ts_extensions.proofs.ValidExtensions.{AllOctets, are-sound, no-fault}
use Rattle.ts_crl.specs.declared.extension_rule.ExtensionRule.{ExtensionRule}
use Rattle.ts_crl.specs.declared.extension_rule.ExtensionRule.TheVariants.{OldVersion, Repeated, Values}
use Rattle.ts_crl.specs.declared.version.ListVersion.{ListVersion}
use Rattle.ts_crl.specs.declared.version.ListVersion.TheVariants.{V1, V2}
use Rattle.ts_crl.specs.List.{LocatedExtensions, LocatedEntry, LocatedList, unlocated_extensions, unlocated_entry, unlocated_list}
use Rattle.ts_crl.specs.Values.{is_known, with_number, located_with_number}
use Rattle.ts_crl.specs.Rules.{as_ruled, located_as_ruled, rule_fault, fault_if_any, entries_fault, fault_by_place, crl_version_fault, Keeps, KeepsIfAny, EntriesKeep, AllKeep, FitVersion}
use Rattle.ts_crl.proofs.Readiness.{Ready, IfReady, EntriesReady, ReadyTbs}

pub neither : {A : Type 0} (a b : Option A) → (a or_else b) ≡ None → (a ≡ None) × (b ≡ None)
neither None b e = (refl, e)
neither (Some f) b e = absurd cc

pub both : {A : Type 0} (a b : Option A) → a ≡ None → b ≡ None → (a or_else b) ≡ None
both {A} a b e f = ap (λ (o : Option A). o or_else b) e ∙ f

pub unmapped : {A B : Type 0} (f : A → B) (o : Option A) → option_map f o ≡ None → o ≡ None
unmapped f None e = refl
unmapped f (Some x) e = absurd cc

-- ---- repeats

unlocated-repeated : (seen : List (List ℕ)) (xs : List Located) → first_repeated (λ x. x.extnID) seen (map unlocated xs) ≡ option_map unlocated (first_repeated (λ x. x.extnID) seen xs)
unfolding first_repeated
unlocated-repeated seen [] = refl
unlocated-repeated seen (x ∷ xs) = by_test (unlocated-repeated (x.extnID ∷ seen) xs) (is_among x.extnID seen)
  where
    by_test : first_repeated (λ x. x.extnID) (x.extnID ∷ seen) (map unlocated xs) ≡ option_map unlocated (first_repeated (λ x. x.extnID) (x.extnID ∷ seen) xs)
        → (b : Bool) → cond b (Some (unlocated x))
        (first_repeated (λ x. x.extnID) (x.extnID ∷ seen) (map unlocated xs)) ≡ option_map
        unlocated (cond b (Some x) (first_repeated (λ x. x.extnID) (x.extnID ∷ seen) xs))
    by_test more true = refl
    by_test more false = more

-- ---- the rules of a base number

unlocated-as-ruled : (x : Located) → unlocated (located_as_ruled x) ≡ as_ruled (unlocated x)
unlocated-as-ruled x = by_test (is_known DeltaCrlIndicator (unlocated x))
  where
    by_test : (b : Bool) → unlocated (cond b (located_with_number x) x) ≡ cond b (with_number (unlocated x)) (unlocated x)
    by_test true = refl
    by_test false = refl

unlocated-ruled : (xs : List Located) → map unlocated (map located_as_ruled xs) ≡ map as_ruled (map unlocated xs)
unlocated-ruled [] = refl
unlocated-ruled (x ∷ xs) = rw (unlocated-as-ruled x, unlocated-ruled xs) refl

ruled-octets : (xs : List Located) → AllOctets xs → AllOctets (map located_as_ruled xs)
ruled-octets [] fits = tt
ruled-octets (x ∷ xs) fits = (by_test (is_known DeltaCrlIndicator (unlocated x)), ruled-octets xs fits.1)
  where
    by_test : (b : Bool) → AreOctets (cond b (located_with_number x) x).value.content
    by_test true = fits.0
    by_test false = fits.0

-- ---- one rule

kept-one : (rule : ExtensionRule) (holder : Holder) (x : LocatedExtensions) → Ready x → rule_fault rule holder x ≡ None → Keeps rule holder (unlocated_extensions x)
kept-one OldVersion holder x ready e = absurd cc
kept-one Repeated holder x ready e =
    unlocated-repeated [] x.extensions ∙ ap (λ (o : Option Located). option_map unlocated o) (unmapped (λ r. breaks r.at DuplicateExtension) (first_repeated (λ r. r.extnID) [] x.extensions) e)
kept-one Values ListHolder x ready e =
    subst (AreValid ListHolder) (unlocated-ruled x.extensions) (are-sound ListHolder (map located_as_ruled x.extensions) (ruled-octets x.extensions ready) e)
kept-one Values Entry x ready e = are-sound Entry x.extensions ready e
kept-one Values Certificate x ready e = are-sound Certificate x.extensions ready e

keeps-one : (rule : ExtensionRule) (holder : Holder) (x : LocatedExtensions) → Keeps rule holder (unlocated_extensions x) → rule_fault rule holder x ≡ None
keeps-one OldVersion holder x keeps = absurd keeps
keeps-one Repeated holder x keeps =
    ap (λ (o : Option Located). option_map (λ r. breaks r.at DuplicateExtension) o)
    (unmapped unlocated (first_repeated (λ r. r.extnID) [] x.extensions)
    (sym (unlocated-repeated [] x.extensions) ∙ keeps))
keeps-one Values ListHolder x keeps = no-fault ListHolder (map located_as_ruled x.extensions) (subst (AreValid ListHolder) (sym (unlocated-ruled x.extensions)) keeps)
keeps-one Values Entry x keeps = no-fault Entry x.extensions keeps
keeps-one Values Certificate x keeps = no-fault Certificate x.extensions keeps

kept-if-any : (rule : ExtensionRule) (holder : Holder) (o : Option LocatedExtensions) → IfReady Ready o → fault_if_any rule holder o ≡ None → KeepsIfAny rule holder (option_map unlocated_extensions o)
kept-if-any rule holder None ready e = tt
kept-if-any rule holder (Some x) ready e = kept-one rule holder x ready e

keeps-if-any : (rule : ExtensionRule) (holder : Holder) (o : Option LocatedExtensions) → KeepsIfAny rule holder (option_map unlocated_extensions o) → fault_if_any rule holder o ≡ None
keeps-if-any rule holder None keeps = refl
keeps-if-any rule holder (Some x) keeps = keeps-one rule holder x keeps

kept-entries : (rule : ExtensionRule) (es : List LocatedEntry) → EntriesReady es → entries_fault rule es ≡ None → EntriesKeep rule (map unlocated_entry es)
kept-entries rule [] ready e = tt
kept-entries rule (x ∷ es) ready e =
    let n = neither (fault_if_any rule Entry x.crlEntryExtensions) (entries_fault rule es) e in
    (kept-if-any rule Entry x.crlEntryExtensions ready.0 n.0, kept-entries rule es ready.1 n.1)

keeps-entries : (rule : ExtensionRule) (es : List LocatedEntry) → EntriesKeep rule (map unlocated_entry es) → entries_fault rule es ≡ None
keeps-entries rule [] keeps = refl
keeps-entries rule (x ∷ es) keeps =
    both (fault_if_any rule Entry x.crlEntryExtensions) (entries_fault rule es) (keeps-if-any rule Entry x.crlEntryExtensions keeps.0) (keeps-entries rule es keeps.1)

kept-entries-if-any : (rule : ExtensionRule) (o : Option (List LocatedEntry)) → EntriesReady (unwrap_or o []) → entries_fault rule (unwrap_or o []) ≡ None
    → EntriesKeep rule (unwrap_or (option_map (map unlocated_entry) o) [])
kept-entries-if-any rule None ready e = tt
kept-entries-if-any rule (Some es) ready e = kept-entries rule es ready e

keeps-entries-if-any : (rule : ExtensionRule) (o : Option (List LocatedEntry)) → EntriesKeep rule (unwrap_or (option_map (map unlocated_entry) o) []) → entries_fault rule (unwrap_or o []) ≡ None
keeps-entries-if-any rule None keeps = refl
keeps-entries-if-any rule (Some es) keeps = keeps-entries rule es keeps

-- ---- a list

pub all-kept : (rule : ExtensionRule) (l : LocatedList) → ReadyTbs l.tbsCertList → fault_by_place rule l ≡ None → AllKeep rule (unlocated_list l)
all-kept rule l ready e =
    let n = neither (entries_fault rule (unwrap_or l.tbsCertList.revokedCertificates [])) (fault_if_any rule ListHolder l.tbsCertList.crlExtensions) e in
    (kept-entries-if-any rule l.tbsCertList.revokedCertificates ready.0 n.0, kept-if-any rule ListHolder l.tbsCertList.crlExtensions ready.1 n.1)

pub all-keep : (rule : ExtensionRule) (l : LocatedList) → AllKeep rule (unlocated_list l) → fault_by_place rule l ≡ None
all-keep rule l keeps =
    both (entries_fault rule (unwrap_or l.tbsCertList.revokedCertificates [])) (fault_if_any rule ListHolder l.tbsCertList.crlExtensions)
    (keeps-entries-if-any rule l.tbsCertList.revokedCertificates keeps.0) (keeps-if-any rule ListHolder l.tbsCertList.crlExtensions keeps.1)

pub version-kept : (v : ListVersion) (l : LocatedList) → ReadyTbs l.tbsCertList → crl_version_fault v l ≡ None → FitVersion v (unlocated_list l)
version-kept V1 l ready e = all-kept OldVersion l ready e
version-kept V2 l ready e = tt

pub version-keeps : (v : ListVersion) (l : LocatedList) → FitVersion v (unlocated_list l) → crl_version_fault v l ≡ None
version-keeps V1 l keeps = all-keep OldVersion l keeps
version-keeps V2 l keeps = refl
