-- What is found in some and in others after them.
use Rattle.std.proofs.Common.{◌≡◌, ℕ, ◌≤◌, Bool, true, false, cond, ◌||◌, List, [], ◌∷◌, ◌++◌, length, Option, Some, None, Result, Ok, Err, refl, sym, ap, ◌∙◌, arith}
use Rattle.std.specs.List.{find, list_any}
use Rattle.std.specs.Prelude.{map, option_map}
use Rattle.ts_der.specs.declared.fault.Fault.{Fault}
use Rattle.ts_der.specs.Answer.{refusal}
use Rattle.ts_der.specs.Element.{Place, Tlv, inside}
use Rattle.ts_der.specs.Reading.{end_at}
use Rattle.ts_der.proofs.Laws.{ok_is}
use Rattle.ts_der.proofs.Many.{with_front}
use Rattle.ts_shape.specs.declared.fault.CertFault.{CertFault}
use Rattle.ts_shape.specs.Fields.{integer_at, optional_of}
use Rattle.ts_shape.specs.Items.{some_of, items_at}
use Rattle.ts_shape.specs.Repeats.{first_repeated}
use Rattle.ts_shape.specs.Shape.{◌or_else◌}
use Rattle.ts_shape.proofs.ItemParts.{some-walked}
use Rattle.ts_ext.specs.declared.known.Holder.TheVariants.{Entry}
use Rattle.ts_ext.specs.declared.known.Known.TheVariants.{CertificateIssuer}
use Rattle.ts_extensions.specs.Extension.{Extension, Located, unlocated}
use Rattle.ts_extensions.specs.ValueRules.{value_fault, values_fault}
use Rattle.ts_field.specs.declared.time.Time.{Time}
use Rattle.ts_field.specs.Time.{time_at}
use Rattle.ts_crl.specs.declared.extension_rule.ExtensionRule.{ExtensionRule}
use Rattle.ts_crl.specs.declared.extension_rule.ExtensionRule.TheVariants.{OldVersion, Repeated, Values}
use Rattle.ts_crl.specs.Findings.{Findings, findings_of}
use Rattle.ts_crl.specs.inside.Findings.{join, found_among, found_in, found_if_any}
use Rattle.ts_crl.specs.List.{LocatedExtensions, LocatedEntry, unlocated_extensions, unlocated_entry}
use Rattle.ts_crl.specs.Profile.{is_unprocessed, unprocessed_in, unprocessed_of_entries, names_issuer}
use Rattle.ts_crl.specs.Reading.{located_extensions_of, entry_of, located_entry_of, revoked_of}
use Rattle.ts_crl.specs.Rules.{rule_fault, fault_if_any, entries_fault}
use Rattle.ts_crl.specs.Values.{is_known, entry_extensions_of}
use Rattle.ts_crl.proofs.Walks.{many-walked}

-- ---- the first of several

-- the first of three is that of the first two and the third
first-of_three : {A : Type 0} (a b c : Option A) → (a or_else (b or_else c)) ≡ ((a or_else b) or_else c)
first-of_three (Some x) b c = refl
first-of_three None b c = refl

or-three : (a b c : Bool) → (a || (b || c)) ≡ ((a || b) || c)
or-three true b c = refl
or-three false b c = refl

last : {A : Type 0} (o : Option A) → (o or_else None) ≡ o
last (Some x) = refl
last None = refl

or-last : (b : Bool) → (b || false) ≡ b
or-last true = refl
or-last false = refl

-- nothing in front
pub many-fronted : {A : Type 0} (r : Result (List A) Fault) → with_front [] r ≡ r
many-fronted (Ok xs) = refl
many-fronted (Err f) = refl

-- what is refused by none is what a walk lists
pub listed : {A : Type 0} (value : Tlv → Result A Fault) (e : Tlv) (xs : List A) → some_of value e ≡ Ok xs → items_at value (inside e) ≡ xs
listed value e xs read = ok_is {E = Fault} (items_at value (inside e)) xs (sym (some-walked value e (ap (λ r. refusal r) (sym read))) ∙ read)

-- ---- findings part by part

abbrev of_parts : Option CertFault → Option CertFault → Option CertFault → Option (List ℕ) → Bool → Findings
of_parts o r v u i = record { old_version = o; repeated = r; value = v; unprocessed = u; issuer = i }

parts-alike : (f g : Findings) → f.old_version ≡ g.old_version → f.repeated ≡ g.repeated → f.value ≡ g.value → f.unprocessed ≡ g.unprocessed → f.issuer ≡ g.issuer → f ≡ g
parts-alike f g a b c d e =
    ap (λ o. of_parts o f.repeated f.value f.unprocessed f.issuer) a
    ∙ (ap (λ r. of_parts g.old_version r f.value f.unprocessed f.issuer) b
    ∙ (ap (λ v. of_parts g.old_version g.repeated v f.unprocessed f.issuer) c
    ∙ (ap (λ u. of_parts g.old_version g.repeated g.value u f.issuer) d ∙ ap (λ i. of_parts g.old_version g.repeated g.value g.unprocessed i) e)))

pub joined-none : (f : Findings) → join f (findings_of []) ≡ f
joined-none f = parts-alike (join f (findings_of [])) f (last f.old_version) (last f.repeated) (last f.value) (last f.unprocessed) (or-last f.issuer)

joined-three : (f g h : Findings) → join f (join g h) ≡ join (join f g) h
joined-three f g h =
    parts-alike (join f (join g h)) (join (join f g) h)
    (first-of_three f.old_version g.old_version h.old_version) (first-of_three f.repeated g.repeated h.repeated) (first-of_three f.value g.value h.value)
    (first-of_three f.unprocessed g.unprocessed h.unprocessed) (or-three f.issuer g.issuer h.issuer)

-- ---- entries

faults-append : (rule : ExtensionRule) (es fs : List LocatedEntry) → entries_fault rule (es ++ fs) ≡ (entries_fault rule es or_else entries_fault rule fs)
faults-append rule [] fs = refl
faults-append rule (e ∷ es) fs =
    let first = fault_if_any rule Entry e.crlEntryExtensions in
    ap (λ (o : Option CertFault). first or_else o) (faults-append rule es fs) ∙ first-of_three first (entries_fault rule es) (entries_fault rule fs)

unprocessed-append : (es fs : List LocatedEntry)
    → unprocessed_of_entries (map unlocated_entry (es ++ fs)) ≡ (unprocessed_of_entries (map unlocated_entry es) or_else unprocessed_of_entries (map unlocated_entry fs))
unprocessed-append [] fs = refl
unprocessed-append (e ∷ es) fs =
    let first = unprocessed_in Entry (entry_extensions_of (unlocated_entry e)) in
    ap (λ o. first or_else o) (unprocessed-append es fs) ∙ first-of_three first (unprocessed_of_entries (map unlocated_entry es)) (unprocessed_of_entries (map unlocated_entry fs))

any-append : {X A : Type 0} (view : X → A) (test : A → Bool) (xs ys : List X) → list_any test (map view (xs ++ ys)) ≡ (list_any test (map view xs) || list_any test (map view ys))
any-append view test [] ys = refl
any-append view test (x ∷ xs) ys =
    ap (λ (b : Bool). test (view x) || b) (any-append view test xs ys) ∙ or-three (test (view x)) (list_any test (map view xs)) (list_any test (map view ys))

-- one more entry
pub entry-joined : (es : List LocatedEntry) (e : LocatedEntry) (f g : Findings) → f ≡ findings_of es → g ≡ join f (findings_of (e ∷ [])) → g ≡ findings_of (es ++ e ∷ [])
entry-joined es e f g before now = now ∙ (ap (λ (h : Findings). join h (findings_of (e ∷ []))) before ∙ sym append)
  where
    append : findings_of (es ++ e ∷ []) ≡ join (findings_of es) (findings_of (e ∷ []))
    append =
        let one = e ∷ [] in
        parts-alike (findings_of (es ++ one)) (join (findings_of es) (findings_of one))
        (faults-append OldVersion es one) (faults-append Repeated es one) (faults-append Values es one) (unprocessed-append es one) (any-append unlocated_entry names_issuer es one)

-- what is found in an entry is what is found in its extensions
pub entry-found-by : (e : LocatedEntry) (o : Option LocatedExtensions) → e.crlEntryExtensions ≡ o → findings_of (e ∷ []) ≡ found_if_any o
entry-found-by e None none = rw none refl
entry-found-by e (Some x) some =
    rw some
    (parts-alike _ (found_in x) refl (last (rule_fault Repeated Entry x))
    (last (rule_fault Values Entry x)) (last (unprocessed_in Entry (unlocated_extensions x)))
    (or-last (list_any (is_known CertificateIssuer) (unlocated_extensions x))))

-- ---- extensions

values-append : (xs ys : List Located) → values_fault Entry (xs ++ ys) ≡ (values_fault Entry xs or_else values_fault Entry ys)
values-append [] ys = refl
values-append (x ∷ xs) ys =
    ap (λ (o : Option CertFault). value_fault Entry x or_else o) (values-append xs ys) ∙ first-of_three (value_fault Entry x) (values_fault Entry xs) (values_fault Entry ys)

oids-append : (xs ys : List Located) → unprocessed_in Entry (map unlocated (xs ++ ys)) ≡ (unprocessed_in Entry (map unlocated xs) or_else unprocessed_in Entry (map unlocated ys))
oids-append [] ys = refl
oids-append (x ∷ xs) ys = by_test (oids-append xs ys) (is_unprocessed Entry (unlocated x))
  where
    oid : Option Extension → Option (List ℕ)
    oid o = option_map (λ y. y.extnID) o

    by_test : unprocessed_in Entry (map unlocated (xs ++ ys)) ≡ (unprocessed_in Entry (map unlocated xs) or_else unprocessed_in Entry (map unlocated ys))
        → (b : Bool) → option_map (λ y. y.extnID) (cond b (Some (unlocated x)) (find (is_unprocessed Entry) (map unlocated (xs ++ ys))))
        ≡ (option_map (λ y. y.extnID) (cond b (Some (unlocated x)) (find (is_unprocessed Entry) (map unlocated xs))) or_else unprocessed_in Entry (map unlocated ys))
    by_test more true = refl
    by_test more false = more

-- one more extension
pub extension-joined : (xs : List Located) (x : Located) (first f g : Findings) → f ≡ join first (found_among xs)
    → g.old_version ≡ f.old_version → g.repeated ≡ f.repeated → g.value ≡ (f.value or_else value_fault Entry x)
    → g.unprocessed ≡ (f.unprocessed or_else unprocessed_in Entry (unlocated x ∷ [])) → g.issuer ≡ (f.issuer || is_known CertificateIssuer (unlocated x)) → g ≡ join first (found_among (xs ++ x ∷ []))
extension-joined xs x first f g before a b c d e = noted
    ∙ (ap (λ (h : Findings). join h (found_among one)) before
    ∙ (sym (joined-three first (found_among xs) (found_among one)) ∙ ap (join first) (sym append)))
  where
    one : List Located
    one = x ∷ []

    noted : g ≡ join f (found_among (x ∷ []))
    noted =
        parts-alike g (join f (found_among (x ∷ [])))
        (a ∙ sym (last f.old_version)) (b ∙ sym (last f.repeated)) (c ∙ ap (λ (o : Option CertFault). f.value or_else o) (sym (last (value_fault Entry x)))) d
        (e ∙ ap (λ (i : Bool). f.issuer || i) (sym (or-last (is_known CertificateIssuer (unlocated x)))))

    append : found_among (xs ++ x ∷ []) ≡ join (found_among xs) (found_among (x ∷ []))
    append =
        parts-alike (found_among (xs ++ x ∷ [])) (join (found_among xs) (found_among (x ∷ []))) refl refl
        (values-append xs (x ∷ [])) (oids-append xs (x ∷ [])) (any-append unlocated (is_known CertificateIssuer) xs (x ∷ []))

-- no extension
pub no-extension-joined : (f : Findings) → f ≡ join f (found_among [])
no-extension-joined f = sym (joined-none f)

-- all of them, and what their list as a whole breaks
pub placed-joined : (first f g : Findings) (x : LocatedExtensions) → f ≡ join first (found_among x.extensions)
    → g.old_version ≡ (f.old_version or_else rule_fault OldVersion Entry x) → g.repeated ≡ (f.repeated or_else rule_fault Repeated Entry x)
    → g.value ≡ f.value → g.unprocessed ≡ f.unprocessed → g.issuer ≡ f.issuer → g ≡ join first (found_in x)
placed-joined first f g x before a b c d e =
    parts-alike g (join first (found_in x))
    (a ∙ ap (λ (o : Option CertFault). o or_else rule_fault OldVersion Entry x) (ap (λ (h : Findings). h.old_version) before ∙ last first.old_version))
    (b ∙ ap (λ (o : Option CertFault). o or_else rule_fault Repeated Entry x) (ap (λ (h : Findings). h.repeated) before ∙ last first.repeated))
    (c ∙ ap (λ (h : Findings). h.value) before) (d ∙ ap (λ (h : Findings). h.unprocessed) before) (e ∙ ap (λ (h : Findings). h.issuer) before)

-- one extension repeats none
one-unrepeated : (xs : List Located) → length xs ≤ 1 → first_repeated (λ x. x.extnID) [] xs ≡ None
unfolding first_repeated
one-unrepeated [] few = refl
one-unrepeated (x ∷ []) few = refl
one-unrepeated (x ∷ y ∷ xs) few = absurd (omega arith)

pub one-repeats_none : (found : Option CertFault) (x : LocatedExtensions) → length x.extensions ≤ 1 → found ≡ (found or_else rule_fault Repeated Entry x)
one-repeats_none found x few = rw (one-unrepeated x.extensions few) (sym (last found))

-- ---- readings of parts that were read

pub entry-read : (e : Tlv) (serial : List ℕ) (date : Time) (xs : Option LocatedExtensions) (p q r : Place)
    → integer_at (inside e) ≡ Ok (serial, p) → time_at p ≡ Ok (date, q) → optional_of 0x30 located_extensions_of q ≡ Ok (xs, r) → end_at r ≡ Ok tt
    → entry_of e ≡ Ok (record { userCertificate = serial; revocationDate = date; crlEntryExtensions = xs })
unfolding entry_of
entry-read e serial date xs p q r a b c d = rw (a, b, c, d) refl

-- entries that were read are those of a walk
pub entries-walked : (e : Tlv) (es : List LocatedEntry) → revoked_of e ≡ Ok es
    → (refusal (revoked_of e) ≡ None) × (revoked_of e ≡ Ok (items_at located_entry_of (inside e)))
    × (es ≡ items_at located_entry_of (inside e))
entries-walked e es read =
    let are = many-walked located_entry_of (inside e) (ap (λ r. refusal r) (sym read)) in
    (ap (λ r. refusal r) read, are, ok_is {E = Fault} es (items_at located_entry_of (inside e)) (sym read ∙ are))
