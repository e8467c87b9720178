-- The rules of a CRL that what is made may break.
use Rattle.std.proofs.Common.{◌++◌, ◌&&◌, not, ◌≡◌, ℕ, ◌≤◌, ◌⊎◌, inl, inr, Bool, true, false, cond}
use Rattle.std.proofs.Common.{List, [], ◌∷◌, length, Option, Some, None, Result, Ok, Err, refl, sym}
use Rattle.std.proofs.Common.{ap, subst, ◌∙◌, arith, length-append}
use Rattle.std.specs.Prelude.{IfOk, IfErr, option_map, unwrap_or, map, is_none}
use Rattle.std.specs.List.{AllByRecursion, flat_map}
use Rattle.std.proofs.lemmas.List.Concat.{flat_map-append}
use Rattle.std.specs.declared.vec.Vec.{Vec}
use Rattle.std.specs.declared.alloc.Global.{Global}
use Rattle.ts_der.specs.Element.{encode}
use Rattle.ts_der.specs.declared.fault.DerFault.TheVariants.{TimeForm}
use Rattle.ts_shape.specs.declared.fault.CertRule.TheVariants.{Der}
use Rattle.ts_shape.specs.declared.fault.CertFault.{CertFault}
use Rattle.ts_shape.specs.Fault.{breaks}
use Rattle.ts_shape.specs.Repeats.{first_repeated}
use Rattle.ts_shape.specs.Shape.{◌or_else◌}
use Rattle.ts_time.specs.Civil.{IsInYears}
use Rattle.ts_ext.specs.declared.known.Holder.TheVariants.{List as ListHolder, Entry}
use Rattle.ts_ext.specs.declared.reason_code.ReasonCode.{ReasonCode}
use Rattle.ts_ext.specs.Ext.{reasonCode}
use Rattle.ts_extensions.specs.Extension.{Extension}
use Rattle.ts_ext.specs.Known.{known_at, entry_extension}
use Rattle.ts_extensions.specs.ValueRules.{IsValid, AreValid}
use Rattle.ts_field.specs.declared.time.Time.{Time}
use Rattle.ts_crl.specs.Entries.{entries_of}
use Rattle.ts_crl.specs.Fault.{ListFault, broken, noNextUpdate, criticalCrlExtension, indirect, relativeName, deltaCrl}
use Rattle.ts_crl.specs.List.{LocatedList, CertificateList, unlocated_list}
use Rattle.ts_crl.specs.Profile.{profile_fault, first_unprocessed, is_indirect, is_relative, is_delta, has_number}
use Rattle.ts_crl.specs.Reading.{shape_of}
use Rattle.ts_crl.specs.Rules.{as_ruled, placed_fault}
use Rattle.ts_crl.specs.Table.{unless_broken, crl_of}
use Rattle.ts_crl.proofs.PlacedLaws.{HasOneValid, none-placed}
use Rattle.ts_make.specs.declared.crl_description.EntryText.{EntryText}
use Rattle.ts_make.specs.declared.crl_description.CrlText.{CrlText}
use Rattle.ts_make.specs.declared.fault.MakeFault.{MakeFault}
use Rattle.ts_make.specs.declared.fault.MakeFault.TheVariants.{Memory, TooLong, Unreadable}
use Rattle.ts_make.specs.Extensions.{extension_octets, sequence_extension, field_of}
use Rattle.ts_make.specs.Sayable.{IfWritten}
use Rattle.ts_make.specs.Times.{IsTimeOf}
use Rattle.ts_make.specs.CrlExtensions.{reason_extension, number_extensions, base_extensions, scope_content, null_extension, crl_extensions, crl_field}
use Rattle.ts_make.specs.CrlDescription.{IsCrlDescribed, IsReadAs}
use Rattle.ts_make.specs.CrlMade.{made_crl}
use Rattle.ts_make.specs.CrlMaking.{IsWhole, IsTaken, AnswersCrl, IsSayableCrl, AreAllowedInCrl, IsCrlRefusal}
use Rattle.ts_make.proofs.CrlEncoded.{entry_said, revoked_said, list-fields-short, list-parts-short}
use Rattle.ts_make.proofs.CrlRefused.{IsOutsideCrl, list-refused}
use Rattle.ts_make.proofs.CrlAnswered.{in_years, IsCrlRead, is-list-read, crl-read, placed-none, profile-left, is-described, list-years}
use Rattle.ts_make.proofs.CrlTaken.{left_fault, profile-is}
use Rattle.ts_make.proofs.StandIns.{content-short}
use Rattle.ts_make.proofs.TooLong.{sequence-within}

-- the extension of an entry has the value of its reason
reason-sound : (r : ReasonCode) → IsValid Entry (reason_extension r)
unfolding known_at entry_extension
reason-sound r = (
  reasonCode r,
  record { content = _; fits = record { octet = omega arith; low = omega arith; short = omega arith }; encoded = refl; value = (r, refl, refl) },
  refl,
)

each-sound : (date : Time) (es : List EntryText) → AllByRecursion HasOneValid (map (entry_said date) es)
each-sound date [] = tt
each-sound date (e ∷ es) = (record { extension = reason_extension e.reason; alone = refl; sound = reason-sound e.reason }, each-sound date es)

entries-sound : (date : Time) (es : List EntryText) → AllByRecursion HasOneValid (unwrap_or (revoked_said date es) [])
entries-sound date [] = tt
entries-sound date (e ∷ es) = each-sound date (e ∷ es)

field-list : (xs : List Extension) → unwrap_or (field_of xs) [] ≡ xs
field-list [] = refl
field-list (x ∷ xs) = refl

none-broken : (t n : List ℕ) (text : CrlText) (is : IsCrlRead t n text) → AreAllowedInCrl (crl_extensions text) → placed_fault is.standing ≡ None
none-broken t n text is allowed =
    let l = is.standing in
    let xs : unwrap_or (unlocated_list l).tbsCertList.crlExtensions [] ≡ crl_extensions text =
    ap (λ (c : CertificateList). unwrap_or c.tbsCertList.crlExtensions []) is.same
    ∙ field-list (crl_extensions text) in
    none-placed l
    (ap (λ (c : CertificateList). c.tbsCertList.version) is.same)
    (ap (λ (c : CertificateList). c.tbsCertList.signature.whole) is.same ∙ sym (ap (λ (c : CertificateList). c.signatureAlgorithm.whole) is.same))
    (subst (λ (c : CertificateList). AllByRecursion HasOneValid (entries_of c)) (sym is.same) (entries-sound is.issued text.entries.now))
    (ap (λ (ys : List Extension). first_repeated (λ x. x.extnID) [] ys) xs ∙ allowed.distinct)
    (subst (λ (ys : List Extension). AreValid ListHolder (map as_ruled ys)) (sym xs) allowed.sound)

-- no rule of the profile has a place
chain : (a b c d : Bool) (o : Option (List ℕ)) (f : CertFault)
    → ((cond a (Some noNextUpdate) None) or_else option_map (λ oid. criticalCrlExtension oid) o
    or_else (cond b (Some indirect) None) or_else (cond c (Some relativeName) None) or_else
    (cond d (Some deltaCrl) None)) ≡ Some (broken f) → ⊥
chain true b c d o f e = absurd cc
chain false b c d (Some oid) f e = absurd cc
chain false true c d None f e = absurd cc
chain false false true d None f e = absurd cc
chain false false false true None f e = absurd cc
chain false false false false None f e = absurd cc

not-broken : (l : LocatedList) (o : Option ListFault) (f : CertFault) → (o ≡ Some (broken f) → ⊥) → unless_broken l o ≡ Err (broken f) → ⊥
not-broken l None f other e = absurd cc
not-broken l (Some g) f other e = other cc

one-fault : (r : Result CertificateList ListFault) (f g : CertFault) → r ≡ Err (broken f) → r ≡ Err (broken g) → f.kind ≡ g.kind
one-fault r f g e h = let same : f ≡ g = cc in ap (λ (x : CertFault). x.kind) same

either : (text : CrlText) → IsOutsideCrl text → (IsInYears 0 9999 text.this_update → ⊥) ⊎ (IsInYears 0 9999 text.next_update → ⊥)
either text (inl outside) = inl outside
either text (inr outside) = inr outside.1

refusal : (t n : List ℕ) (text : CrlText) (fault : CertFault) → IsSayableCrl text → IsTimeOf t text.this_update → IsTimeOf n text.next_update
    → length (made_crl t n text) ≤ 4194304 → crl_of (made_crl t n text) ≡ Err (broken fault) → IsCrlRefusal text (Unreadable fault)
refusal t n text fault sayable from to le e =
    elim (in_years text) [
      | inl years ↦
          let is = is-list-read t n text sayable from to le years.0 years.1 in
          let l = is.standing in
          let c = unlocated_list l in
          inr (λ allowed. not-broken l (profile_fault c) fault
          (chain (is_none c.tbsCertList.nextUpdate) (is_indirect c) (is_relative c)
          (is_delta c && not (has_number c)) (first_unprocessed c) fault)
          (sym (crl-read (made_crl t n text) l is.shape
          ∙ profile-left l (none-broken t n text is allowed)) ∙ e))
      | inr outside ↦
          let refused = list-refused t n text sayable from to le outside in
          inl (one-fault (crl_of (made_crl t n text)) fault (breaks refused.0 (Der TimeForm)) e refused.1, either text outside)
    ]

pub answers-refused : (r : Result (Vec ℕ Global) MakeFault) (t n : List ℕ) (text : CrlText) → IfWritten r (IsSayableCrl text) → IsTimeOf t text.this_update → IsTimeOf n text.next_update
    → AnswersCrl IsWhole r (made_crl t n text) → IfErr r (IsCrlRefusal text)
answers-refused (Ok v) t n text sayable from to h = tt
answers-refused (Err Memory) t n text sayable from to h = tt
answers-refused (Err TooLong) t n text sayable from to h = tt
answers-refused (Err (Unreadable fault)) t n text sayable from to h = refusal t n text fault sayable from to h.0 h.1

-- ---- what is taken

field-within : (xs : List Extension) → length (flat_map extension_octets xs) ≤ length (crl_field xs)
unfolding crl_field
field-within [] = omega arith
field-within (x ∷ xs) =
    let items = flat_map extension_octets (x ∷ xs) in
    let inner = content-short 0x30 items in
    let outer = content-short 0xA0 (encode 0x30 items) in
    omega arith

scope-within : (text : CrlText) → length (scope_content text.uris.now text.reasons.now) ≤ length (crl_field (crl_extensions text))
unfolding crl_extensions
scope-within text =
    let content = scope_content text.uris.now text.reasons.now in
    let numbers = number_extensions text.number in
    let bases = base_extensions text.base in
    let scope = sequence_extension 28 true content in
    let nulls = map null_extension text.critical.now in
    let within = sequence-within [] 28 true content in
    let first = ap (λ (o : List ℕ). length o) (flat_map-append extension_octets numbers (bases ++ (scope ++ nulls))) in
    let second = ap (λ (o : List ℕ). length o) (flat_map-append extension_octets bases (scope ++ nulls)) in
    let third = ap (λ (o : List ℕ). length o) (flat_map-append extension_octets scope nulls) in
    let one = length-append (flat_map extension_octets numbers) (flat_map extension_octets (bases ++ (scope ++ nulls))) in
    let two = length-append (flat_map extension_octets bases) (flat_map extension_octets (scope ++ nulls)) in
    let three = length-append (flat_map extension_octets scope) (flat_map extension_octets nulls) in
    let field = field-within (numbers ++ (bases ++ (scope ++ nulls))) in
    omega arith

left-read : (l : LocatedList) (o : Option (List ℕ)) (d n : Bool) → first_unprocessed (unlocated_list l) ≡ o → is_delta (unlocated_list l) ≡ d → has_number (unlocated_list l) ≡ n
    → IsReadAs (unless_broken l (option_map (λ oid. criticalCrlExtension oid) o or_else cond (d && not n) (Some deltaCrl) None)) (unlocated_list l)
left-read l (Some oid) d n e f g = e
left-read l None true false e f g = (e, f, g)
left-read l None true true e f g = refl
left-read l None false n e f g = refl

left-taken : (l : LocatedList) (o : Option (List ℕ)) (d : Bool) → IsTaken (unless_broken l (option_map (λ oid. criticalCrlExtension oid) o or_else cond d (Some deltaCrl) None))
left-taken l (Some oid) d = tt
left-taken l None true = tt
left-taken l None false = tt

-- what breaks no rule that has a place is read as the list, or refused for a critical extension or as a delta without a number
whole-read : (t n : List ℕ) (text : CrlText) (is : IsCrlRead t n text) → length (made_crl t n text) ≤ 4194304 → IsWhole (crl_of (made_crl t n text))
    → crl_of (made_crl t n text) ≡ unless_broken is.standing (left_fault (unlocated_list is.standing))
whole-read t n text is le w =
    let l = is.standing in
    let read = crl-read (made_crl t n text) l is.shape in
    let none = placed-none (placed_fault l) (profile_fault (unlocated_list l)) l (subst IsWhole read w) in
    let parts = list-parts-short t n text le in
    let fields = list-fields-short t n text parts.tbs in
    let scope = scope-within text in
    let small : length (scope_content text.uris.now text.reasons.now) ≤ 4194304 = omega (arith, fields.extensions) in
    read ∙ (profile-left l none ∙ ap (λ (o : Option ListFault). unless_broken l o) (profile-is t n text is small))

pub answers-made : (r : Result (Vec ℕ Global) MakeFault) (t n : List ℕ) (text : CrlText) → IfWritten r (IsSayableCrl text) → IsTimeOf t text.this_update → IsTimeOf n text.next_update
    → AnswersCrl IsWhole r (made_crl t n text) → AnswersCrl IsTaken r (made_crl t n text)
answers-made (Ok v) t n text sayable from to h =
    let years = list-years t n text sayable from to h.1 h.2 in
    let is = is-list-read t n text sayable from to h.1 years.0 years.1 in (
      h.0,
      h.1,
      subst IsTaken (sym (whole-read t n text is h.1 h.2))
          (left-taken is.standing (first_unprocessed (unlocated_list is.standing))
          (is_delta (unlocated_list is.standing) && not (has_number (unlocated_list is.standing)))),
    )
answers-made (Err Memory) t n text sayable from to h = tt
answers-made (Err TooLong) t n text sayable from to h = h
answers-made (Err (Unreadable fault)) t n text sayable from to h = h

pub answers-described : (r : Result (Vec ℕ Global) MakeFault) (t n : List ℕ) (text : CrlText) → IfWritten r (IsSayableCrl text) → IsTimeOf t text.this_update → IsTimeOf n text.next_update
    → AnswersCrl IsWhole r (made_crl t n text)
    → IfOk r (λ v. (l : LocatedList) × (shape_of v.items ≡ Ok l) × IsCrlDescribed text (unlocated_list l) × IsReadAs (crl_of v.items) (unlocated_list l))
answers-described (Ok v) t n text sayable from to h =
    let years = list-years t n text sayable from to h.1 h.2 in
    let is = is-list-read t n text sayable from to h.1 years.0 years.1 in
    let l = is.standing in (
      l,
      ap shape_of h.0 ∙ is.shape,
      subst (λ (c : CertificateList). IsCrlDescribed text c) (sym is.same) (is-described t n text sayable is.issued is.next is.issued_at is.next_at),
      subst (λ (r : Result CertificateList ListFault). IsReadAs r (unlocated_list l))
          (sym (ap crl_of h.0 ∙ whole-read t n text is h.1 h.2))
          (left-read l (first_unprocessed (unlocated_list l)) (is_delta (unlocated_list l))
          (has_number (unlocated_list l)) refl refl refl),
    )
answers-described (Err e) t n text sayable from to h = tt
