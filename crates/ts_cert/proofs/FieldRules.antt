-- The rules of the fields beyond their shape: those of the fields with their offsets are those of the record.
use Rattle.std.proofs.Common.{◌≡◌, ℕ, Bool, true, false, cond, List, [], ◌∷◌, Option, Some, None, refl, sym, ap, subst, ◌∙◌}
use Rattle.std.specs.Prelude.{map, option_map, unwrap_or}
use Rattle.ts_shape.specs.declared.fault.CertRule.TheVariants.{DuplicateExtension}
use Rattle.ts_shape.specs.declared.fault.CertFault.{CertFault}
use Rattle.ts_shape.specs.Fault.{breaks}
use Rattle.ts_shape.specs.Repeats.{is_among, first_repeated}
use Rattle.ts_shape.specs.Shape.{◌or_else◌}
use Rattle.ts_ext.specs.declared.known.Holder.TheVariants.{Certificate as CertificateHolder}
use Rattle.ts_extensions.specs.Extension.{Extension, Located, unlocated}
use Rattle.ts_extensions.specs.ValueRules.{repeated_fault, AreValid}
use Rattle.ts_extensions.proofs.ValidExtensions.{AllOctets, are-sound, no-fault}
use Rattle.ts_cert.specs.declared.version.Version.{Version}
use Rattle.ts_cert.specs.declared.version.Version.TheVariants.{V1, V2, V3}
use Rattle.ts_cert.specs.Certificate.{Tbs, all_extensions}
use Rattle.ts_cert.specs.Rules.{OptionalFields, all_located, must_lack, version_fault, extensions_fault}
use Rattle.ts_cert.specs.Encoding.{FitsVersion}

neither : (a b : Option CertFault) → (a or_else b) ≡ None → (a ≡ None) × (b ≡ None)
neither None b e = (refl, e)
neither (Some f) b e = absurd cc

-- ---- the fields that a version has

lacks : {A : Type 0} (o : Option A) (at : ℕ) → must_lack o at ≡ None → o ≡ None
lacks None at e = refl
lacks (Some x) at e = absurd cc

-- what extensions say, if there are any
abbrev unlocated_if_any : Option (List Located) → Option (List Extension)
unlocated_if_any = option_map (map unlocated)

none-unlocated : (o : Option (List Located)) → o ≡ None → unlocated_if_any o ≡ None
none-unlocated o e = ap unlocated_if_any e

unlocated-none : (o : Option (List Located)) → unlocated_if_any o ≡ None → o ≡ None
unlocated-none None e = refl
unlocated-none (Some xs) e = absurd cc

-- a record has the fields that stand here
pub record Has (t : Tbs) (l : OptionalFields) : Type 0 where
  pub issuer : t.issuerUniqueID ≡ l.issuerUniqueID
  pub subject : t.subjectUniqueID ≡ l.subjectUniqueID
  pub extensions : t.extensions ≡ unlocated_if_any l.extensions

version-fits : (v : Version) (t : Tbs) (l : OptionalFields) → Has t l → version_fault v l ≡ None → FitsVersion v t
version-fits V1 t l has e =
    let first = neither (must_lack l.issuerUniqueID l.issuerUniqueID_at or_else must_lack l.subjectUniqueID l.subjectUniqueID_at) _ e in
    let second = neither (must_lack l.issuerUniqueID l.issuerUniqueID_at) _ first.0 in (
      has.issuer ∙ lacks l.issuerUniqueID l.issuerUniqueID_at second.0,
      has.subject
          ∙ lacks l.subjectUniqueID l.subjectUniqueID_at second.1,
      has.extensions
          ∙ none-unlocated l.extensions (lacks l.extensions l.extensions_at first.1),
    )
version-fits V2 t l has e = has.extensions ∙ none-unlocated l.extensions (lacks l.extensions l.extensions_at e)
version-fits V3 t l has e = tt

version-kept : (v : Version) (t : Tbs) (l : OptionalFields) → Has t l → FitsVersion v t → version_fault v l ≡ None
version-kept V1 t l has is = rw (sym has.issuer ∙ is.0, sym has.subject ∙ is.1, unlocated-none l.extensions (sym has.extensions ∙ is.2)) refl
version-kept V2 t l has is = rw (unlocated-none l.extensions (sym has.extensions ∙ is)) refl
version-kept V3 t l has is = refl

-- ---- extensions that occur twice

repeated-unlocated : (seen : List (List ℕ)) (xs : List Located) → first_repeated (λ x. x.extnID) seen (map unlocated xs) ≡ option_map unlocated (first_repeated (λ x. x.extnID) seen xs)
unfolding first_repeated
repeated-unlocated seen [] = refl
repeated-unlocated seen (x ∷ xs) = by_test (repeated-unlocated (x.extnID ∷ seen) xs) (is_among x.extnID seen)
  where
    others : Option Extension
    others = first_repeated (λ y. y.extnID) (x.extnID ∷ seen) (map unlocated xs)

    by_test : others ≡ option_map unlocated (first_repeated (λ y. y.extnID) (x.extnID ∷ seen) xs) → (b : Bool)
        → cond b (Some (unlocated x)) others ≡ option_map unlocated (cond b (Some x) (first_repeated (λ y. y.extnID) (x.extnID ∷ seen) xs))
    by_test more true = refl
    by_test more false = more

repeated-none : (xs : List Located) → repeated_fault xs ≡ None → first_repeated (λ x. x.extnID) [] (map unlocated xs) ≡ None
repeated-none xs e = repeated-unlocated [] xs ∙ by_option (first_repeated (λ x. x.extnID) [] xs) e
  where
    by_option : (o : Option Located) → option_map (λ x. breaks x.at DuplicateExtension) o ≡ None → option_map unlocated o ≡ None
    by_option None e = refl
    by_option (Some x) e = absurd cc

none-repeated : (xs : List Located) → first_repeated (λ x. x.extnID) [] (map unlocated xs) ≡ None → repeated_fault xs ≡ None
none-repeated xs e = by_option (first_repeated (λ x. x.extnID) [] xs) (sym (repeated-unlocated [] xs) ∙ e)
  where
    by_option : (o : Option Located) → option_map unlocated o ≡ None → option_map (λ x. breaks x.at DuplicateExtension) o ≡ None
    by_option None e = refl
    by_option (Some x) e = absurd cc

-- ---- all of them

-- what a certificate keeps to beside its shape
abbrev pub KeepsRules : Tbs → Type 0
KeepsRules t = FitsVersion t.version t × (first_repeated (λ x. x.extnID) [] (all_extensions t) ≡ None) × AreValid CertificateHolder (all_extensions t)

-- a record's extensions are what those say that stand here
all-unlocated : (t : Tbs) (l : OptionalFields) → Has t l → all_extensions t ≡ map unlocated (all_located l)
all-unlocated t l has = ap (λ (o : Option (List Extension)). unwrap_or o []) has.extensions ∙ by_option l.extensions
  where
    by_option : (o : Option (List Located)) → unwrap_or (unlocated_if_any o) [] ≡ map unlocated (unwrap_or o [])
    by_option None = refl
    by_option (Some xs) = refl

pub rules-kept : (t : Tbs) (l : OptionalFields) → Has t l → AllOctets (all_located l) → extensions_fault t.version l ≡ None → KeepsRules t
rules-kept t l has fits e =
    let first = neither (version_fault t.version l) _ e in
    let second = neither (repeated_fault (all_located l)) _ first.1 in
    let same = all-unlocated t l has in (
      version-fits t.version t l has first.0,
      ap (λ (xs : List Extension). first_repeated (λ x. x.extnID) [] xs) same ∙ repeated-none (all_located l) second.0,
      subst (AreValid CertificateHolder) (sym same) (are-sound CertificateHolder (all_located l) fits second.1),
    )

pub rules-again : (t : Tbs) (l : OptionalFields) → Has t l → KeepsRules t → extensions_fault t.version l ≡ None
rules-again t l has is =
    let same = all-unlocated t l has in
    let fits = version-kept t.version t l has is.0 in
    let distinct = none-repeated (all_located l) (sym (ap (λ (xs : List Extension). first_repeated (λ x. x.extnID) [] xs) same) ∙ is.1) in
    let sound = no-fault CertificateHolder (all_located l) (subst (AreValid CertificateHolder) same is.2) in
    rw (fits, distinct, sound) refl
