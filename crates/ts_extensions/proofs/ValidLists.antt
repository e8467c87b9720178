-- Lists of extensions that break no rule.
use Rattle.std.proofs.Common.{◌≡◌, ◌↔◌, ℕ, zero, suc, ◌≤◌, Bool, true, false, List, [], ◌∷◌, length, take, drop, Option, Some, None, Result, Ok, Err, refl, sym, ap, subst, ◌∙◌, cond, not, eqb, arith}
use Rattle.std.specs.Prelude.{map, option_map, is_some}
use Rattle.std.proofs.lemmas.Bool.{eqb-true, false≢true}
use Rattle.std.proofs.lemmas.List.{take-append-drop, take_at, length-append, nil_from_length}
use Rattle.ts_der.specs.declared.fault.Fault.{Fault}
use Rattle.ts_der.specs.Octets.{AreOctets}
use Rattle.ts_der.specs.Element.{Place, Tlv, inside}
use Rattle.ts_der.specs.Reading.{element_at}
use Rattle.ts_der.specs.Answer.{◌>>=◌, refusal}
use Rattle.ts_der.proofs.Laws.{bind_ok, ok_is, err_not_ok}
use Rattle.ts_shape.specs.declared.fault.CertFault.{CertFault}
use Rattle.ts_shape.specs.declared.fault.CertRule.TheVariants.{DuplicateExtension}
use Rattle.ts_shape.specs.Fault.{breaks}
use Rattle.ts_shape.specs.Fields.{Within}
use Rattle.ts_shape.specs.Items.{AreItems, items_at}
use Rattle.ts_shape.proofs.ItemParts.{some-walked}
use Rattle.ts_shape.specs.Repeats.{HaveEnds, is_among, first_repeated}
use Rattle.ts_shape.specs.Shape.{◌or_else◌}
use Rattle.ts_shape.proofs.Parts.{element-took}
use Rattle.ts_ext.specs.declared.known.Holder.TheVariants.{Certificate}
use Rattle.ts_extensions.specs.Extension.{Extension, IsExtension, AreExtensions, Located, unlocated, located_of, located_in, all_located_of, extensions_of}
use Rattle.ts_extensions.specs.Valid.{IsNewKey, IsValidUnder, IsValidAndNew, AreValidOnce}
use Rattle.ts_extensions.specs.ValueRules.{value_fault, values_fault, extension_list_fault, repeated_fault, AreValid}
use Rattle.ts_extensions.proofs.ExtensionParts.{located-found, extensions-format}
use Rattle.ts_extensions.proofs.Unlocated.{extensions-see}
use Rattle.ts_extensions.proofs.ValidExtensions.{AllOctets, located-octets, sound-if, are-sound, no-fault, some-octets as all-octets-of}
use Rattle.ts_extensions.proofs.UriPoints.{some-items}

-- ---- one extension

-- one whose object identifier is new
pub new-under : (arc : ℕ) (before after : List Bool) (item : List ℕ) → IsValidUnder arc item → IsNewKey before after (0x55 ∷ 0x1D ∷ arc ∷ []) → IsValidAndNew before after item
new-under arc before after item is new = (is.0, is.1, is.2, subst (IsNewKey before after) (sym is.3) new)

-- one that is at the front of octets, as it is read
pub stands-sound : (octets : List ℕ) (e : Tlv) (rest : Place) (x : Located)
    (before after : List Bool) → AreOctets octets
    → element_at 0x30 (record { rest = octets; at = 0 }) ≡ Ok (e, rest) → located_of e ≡ Ok x
    → value_fault Certificate x ≡ None → IsNewKey before after x.extnID
    → IsValidAndNew before after (take (length e.whole) octets) × (length e.whole ≤ length octets)
stands-sound octets e rest x before after fits read stands sound new =
    let t = element-took 0x30 (record { rest = octets; at = 0 }) e rest fits read in
    let within : Within 0x30 IsExtension e.whole (unlocated x) = record { content = e.content; fits = t.fits; encoded = t.encoded; value = located-found e x t.inner stands } in
    let is : IsValidAndNew before after e.whole = (unlocated x, within, sound-if Certificate x (located-octets e x t.inner stands) sound, new) in
    let front : take (length e.whole) octets ≡ e.whole = ap (take (length e.whole)) t.whole ∙ take_at e.whole rest.rest (length e.whole) refl in
    (subst (IsValidAndNew before after) (sym front) is, omega (arith, ap (λ (o : List ℕ). length o) t.whole, length-append e.whole rest.rest))

-- ---- all of them

-- these are the extensions after some with these keys
abbrev pub AreValidBehind : List (List ℕ) → List ℕ → Type 0
AreValidBehind keys octets = (xs : List Extension) × AreItems (Within 0x30 IsExtension) octets xs × (first_repeated (λ x. x.extnID) keys xs ≡ None) × AreValid Certificate xs

-- what is left of octets is all of them but extensions with these keys
abbrev pub IsLeft : List ℕ → List Bool → List ℕ → Type 0
IsLeft octets ends rest = (keys : List (List ℕ)) × HaveEnds keys ends × (AreValidBehind keys rest → AreValidBehind [] octets)

pub none-left : (octets : List ℕ) (ends : List Bool) → IsLeft octets ends octets
none-left octets ends = ([], tt, λ all. all)

pub one-less : (octets : List ℕ) (before after : List Bool) (rest : List ℕ) (size : ℕ) → IsValidAndNew before after (take size rest) → IsLeft octets before rest → IsLeft octets after (drop size rest)
unfolding first_repeated
one-less octets before after rest size is left =
    let x : Extension = is.0 in
    let keys : List (List ℕ) = left.0 in
    let key = is.3 keys left.1 in (
      x.extnID ∷ keys,
      key.1,
      λ more. left.2 (
        x ∷ more.0,
        (take size rest, drop size rest, is.1, sym (take-append-drop size rest), more.1),
        rw key.0 more.2,
        (is.2, more.3),
      ),
    )

no-octets : (octet : ℕ) (octets : List ℕ) → [] ≡ octet ∷ octets → 1 ≤ 0
no-octets octet octets e = absurd cc

-- an extension has octets
pub some-octets : (before after : List Bool) (rest : List ℕ) (size : ℕ) → IsValidAndNew before after (take size rest) → 1 ≤ size
some-octets before after rest zero is = no-octets _ _ is.1.encoded
some-octets before after rest (suc n) is = omega arith

-- nothing is left of octets that are not empty
pub all-sound : (octets : List ℕ) (ends : List Bool) (rest : List ℕ) (empty : Bool)
    → IsLeft octets ends rest → eqb (length rest) 0 ≡ true → empty ≡ eqb (length octets) 0
    → not empty ≡ true → AreValidOnce octets
unfolding first_repeated
all-sound octets ends rest empty left done is some =
    let all = left.2 ([], nil_from_length rest (eqb-true (length rest) 0 done), refl, tt) in
    (all.0, (some-items (Within 0x30 IsExtension) octets all.0 empty is some all.1, all.1), all.2, all.3)

pub none-of : (fault : Option CertFault) → is_some fault ≡ false → fault ≡ None
none-of None e = refl
none-of (Some f) e = absurd cc

-- ---- extensions that were read

neither : (a b : Option CertFault) → (a or_else b) ≡ None → (a ≡ None) × (b ≡ None)
neither None b e = (refl, e)
neither (Some f) b e = absurd cc

-- what occurs twice among extensions occurs twice among what they say
unlocated-once : (seen : List (List ℕ)) (xs : List Located) → first_repeated (λ x. x.extnID) seen (map unlocated xs) ≡ option_map unlocated (first_repeated (λ x. x.extnID) seen xs)
unfolding first_repeated
unlocated-once seen [] = refl
unlocated-once seen (x ∷ xs) = by_key (unlocated-once (x.extnID ∷ seen) xs) (is_among x.extnID seen)
  where
    by_key : first_repeated (λ x. x.extnID) (x.extnID ∷ seen) (map unlocated xs) ≡ option_map unlocated (first_repeated (λ x. x.extnID) (x.extnID ∷ seen) xs)
        → (b : Bool) → cond b (Some (unlocated x))
        (first_repeated (λ x. x.extnID) (x.extnID ∷ seen) (map unlocated xs)) ≡ option_map
        unlocated (cond b (Some x) (first_repeated (λ x. x.extnID) (x.extnID ∷ seen) xs))
    by_key more true = refl
    by_key more false = more

none-repeated : (o : Option Located) → option_map (λ x. breaks x.at DuplicateExtension) o ≡ None → option_map unlocated o ≡ None
none-repeated None e = refl
none-repeated (Some x) e = absurd cc

repeats-none : (o : Option Located) → option_map unlocated o ≡ None → option_map (λ x. breaks x.at DuplicateExtension) o ≡ None
repeats-none None e = refl
repeats-none (Some x) e = absurd cc

-- a list without a fault, by what its extensions say
pub without-fault : (content : List ℕ) (xs : List Located) → AllOctets xs → AreExtensions content (map unlocated xs) → extension_list_fault Certificate xs ≡ None → AreValidOnce content
without-fault content xs fits are none =
    let both = neither (repeated_fault xs) (values_fault Certificate xs) none in
    (map unlocated xs, are, unlocated-once [] xs ∙ none-repeated _ both.0, are-sound Certificate xs fits both.1)

pub no-list-fault : (content : List ℕ) (xs : List Located) (all : AreValidOnce content) → map unlocated xs ≡ all.0 → extension_list_fault Certificate xs ≡ None
no-list-fault content xs all same =
    let once : first_repeated (λ (x : Extension). x.extnID) [] (map unlocated xs) ≡ None = ap (first_repeated (λ (x : Extension). x.extnID) []) same ∙ all.2 in
    let repeated = repeats-none _ (sym (unlocated-once [] xs) ∙ once) in
    ap (λ (o : Option CertFault). o or_else values_fault Certificate xs) repeated ∙ no-fault Certificate xs (subst (AreValid Certificate) (sym same) all.3)

told-true : (told : Bool) → false ≡ not told → told ≡ true
told-true true e = refl
told-true false e = absurd (false≢true e)

-- whether a list that was read has no fault, and that of one that was not
pub told-of-read : (e : Tlv) (xs : List Located) (fault : Option CertFault) (told : Bool)
    → AreOctets e.content → all_located_of e ≡ Ok xs → fault ≡ extension_list_fault Certificate xs
    → is_some fault ≡ not told → (told ≡ true) ↔ AreValidOnce e.content
told-of-read e xs fault told fits read is told_is =
    let unlocated_is : extensions_of e ≡ Ok (map unlocated xs) = extensions-see e ∙ ap (λ (r : Result (List Located) Fault). r >>= λ ys. Ok (map unlocated ys)) read in (
      (λ h. without-fault e.content xs (all-octets-of e xs fits read) (extensions-format.found e (map unlocated xs) fits unlocated_is) (sym is ∙ none-of fault (told_is ∙ ap not h))),
      (λ all.
          let again = extensions-format.again e all.0 all.1 in
          let same : map unlocated xs ≡ all.0 = ok_is {A = List Extension} {E = Fault} (map unlocated xs) all.0 (sym unlocated_is ∙ again) in
          told-true told (ap (λ (o : Option CertFault). is_some o) (sym (is ∙ no-list-fault e.content xs all same)) ∙ told_is)),
    )

pub told-of-unread : (e : Tlv) (f : Fault) → all_located_of e ≡ Err f → (false ≡ true) ↔ AreValidOnce e.content
told-of-unread e f read =
    let unlocated_is : extensions_of e ≡ Err f = extensions-see e ∙ ap (λ (r : Result (List Located) Fault). r >>= λ ys. Ok (map unlocated ys)) read in (
      (λ h. absurd (false≢true h)),
      (λ all. absurd (err_not_ok {E = Fault} (sym unlocated_is ∙ extensions-format.again e all.0 all.1))),
    )

-- a list that is sound is read, and has no fault
pub sound-read : (e : Tlv) → AreValidOnce e.content → (all_located_of e ≡ Ok (items_at located_in (inside e))) × (extension_list_fault Certificate (items_at located_in (inside e)) ≡ None)
sound-read e all =
    let s = bind_ok (all_located_of e) (λ xs. Ok (map unlocated xs)) all.0 (sym (extensions-see e) ∙ extensions-format.again e all.0 all.1) in
    let walked = some-walked located_in e (ap (λ (r : Result (List Located) Fault). refusal r) (sym s.1)) in
    let same : map unlocated s.0 ≡ all.0 = ok_is {A = List Extension} {E = Fault} (map unlocated s.0) all.0 s.2 in
    let here : items_at located_in (inside e) ≡ s.0 = ok_is {A = List Located} {E = Fault} (items_at located_in (inside e)) s.0 (sym walked ∙ s.1) in
    (walked, ap (λ (xs : List Located). extension_list_fault Certificate xs) here ∙ no-list-fault e.content s.0 all same)
