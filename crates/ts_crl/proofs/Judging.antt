-- What reading a list refuses is the first rule of the table that is broken.
use Rattle.std.proofs.Common.{◌≡◌, ℕ, Bool, true, false, not, ◌||◌, cond, eqb, List, [], ◌∷◌, length, Option, Some, None, Result, Ok, Err, refl, sym, ap, subst, ◌∙◌}
use Rattle.std.specs.Prelude.{option_map, nat_lt, IfOk, IsOkAnd}
use Rattle.ts_der.specs.declared.fault.DerFault.TheVariants.{TooLarge}
use Rattle.ts_der.specs.declared.fault.Fault.{Fault}
use Rattle.ts_der.specs.Answer.{◌>>=◌, refusal}
use Rattle.ts_der.specs.Element.{Place, Tlv, inside}
use Rattle.ts_der.specs.Integer.{integer_rules}
use Rattle.ts_der.proofs.Laws.{ok_is}
use Rattle.ts_der.specs.Reading.{element_of, behind, begins_with, element_at, value_at, optional_at, end_at, many}
use Rattle.ts_shape.specs.declared.fault.CertRule.{CertRule}
use Rattle.ts_shape.specs.declared.fault.CertRule.TheVariants.{Der, Version}
use Rattle.ts_shape.specs.declared.fault.CertFault.{CertFault}
use Rattle.ts_shape.specs.Fault.{der, breaks}
use Rattle.ts_shape.specs.Fields.{integer_at, bits_at, optional_of}
use Rattle.ts_name.specs.Names.{name_at}
use Rattle.ts_shape.specs.Items.{each, of_tag}
use Rattle.ts_shape.specs.Rows.{object_identifier, integer, bit_string}
use Rattle.ts_name.specs.NameRows.{name}
use Rattle.ts_shape.specs.Shape.{any, optional, Shape, items, nothing, plain, ◌then◌, ◌or_else◌, header_fault, row_fault, judge, der_rules, no_rules, one_rule, sequence}
use Rattle.ts_shape.proofs.ItemParts.{tag-reads, alone-judged}
use Rattle.ts_shape.proofs.Judging.{Judged, weaker, bind, no_more, no_less, element-judged, then-judged, end-judged, under, ends, value-judged, Whatever, integer-reads, bits-reads, items-judged}
use Rattle.ts_name.proofs.NameJudging.{name-reads}
use Rattle.ts_shape.proofs.OptionalParts.{optional-judged}
use Rattle.ts_extensions.specs.Extension.{extensions as extension_items, extensions_of as stated_of}
use Rattle.ts_ext.specs.Table.{list_rules}
use Rattle.ts_extensions.proofs.ExtensionParts.{extensions-format}
use Rattle.ts_field.specs.Algorithm.{algorithm_of, algorithm_at}
use Rattle.ts_field.specs.Table.{algorithm_identifier, time, from_front}
use Rattle.ts_field.specs.Time.{time_at}
use Rattle.ts_field.proofs.Judging.{algorithm-judged, algorithm-reads, time-reads}
use Rattle.ts_crl.specs.declared.version.ListVersion.{ListVersion}
use Rattle.ts_crl.specs.declared.version.ListVersion.TheVariants.{V1, V2}
use Rattle.ts_crl.specs.declared.fault.CrlFault.{CrlFault}
use Rattle.ts_crl.specs.Fault.{ListFault, broken, fault_in, AnswersBy}
use Rattle.ts_crl.specs.List.{LocatedTbsList, LocatedList, CertificateList, unlocated_extensions}
use Rattle.ts_crl.specs.Reading.{located_extensions_of, wrapped_extensions_of, entry_of, located_entry_of, revoked_of, crl_tbs_of, crl_signed_of, crl_whole_of, shape_of}
use Rattle.ts_crl.specs.Table.{is_version, version_rules, version, extensions_row as extensions}
use Rattle.ts_crl.specs.Table.{entry_fields, revoked_certificates, crl_extensions, tbs_fields}
use Rattle.ts_crl.specs.Table.{tbs_cert_list, certificate_list, shape_fault, list_fault}
use Rattle.ts_crl.specs.Table.{list_fault_of, crl_fault, as_list, unless_broken, crl_of}
use Rattle.ts_crl.specs.Version.{crl_version_named, crl_version_of, crl_version_if, crl_version_at}
use Rattle.ts_crl.proofs.Saying.{say}
use Rattle.ts_crl.proofs.EntryParts.{extensions-unlocated, wrapped-unlocated}
use Rattle.ts_crl.proofs.Updates.{update-judged}

-- ---- the version

named-judged : (at : ℕ) (content : List ℕ) → Judged (crl_version_named at content) (option_map (breaks at) (one_rule Version (λ c. not (is_version c)) content)) (λ v. Unit {0})
named-judged at [] = refl
named-judged at (octet ∷ []) = by_test (eqb octet 1)
  where
    by_test : (b : Bool) → Judged (cond b (Ok V2) (Err (breaks at Version))) (option_map (breaks at) (cond (not b) (Some Version) None)) (λ v. Unit {0})
    by_test true = (refl, tt)
    by_test false = refl
named-judged at (octet ∷ next ∷ content) = refl

number-judged : (e : Tlv) → Judged (crl_version_of e) (judge plain (inside e) or_else option_map (breaks e.at) (version_rules e.content)) (λ v. Unit {0})
unfolding crl_version_of
number-judged e =
    subst (λ o. Judged (der (value_at integer_rules (λ c. c) e) >>= λ content. crl_version_named e.at content) o (λ v. Unit {0}))
    (spread (der_rules integer_rules e.content) (one_rule Version (λ c. not (is_version c)) e.content))
    (bind (der (value_at integer_rules (λ c. c) e)) (λ content. crl_version_named e.at content) _ _ _ _ (value-judged integer_rules (λ c. c) e) (λ content p.
    subst (λ (c : List ℕ). Judged (crl_version_named e.at c)
    (option_map (breaks e.at) (one_rule Version (λ c. not (is_version c)) e.content))
    (λ v. Unit {0})) (sym p.0) (named-judged e.at e.content)))
  where
    spread : (a b : Option CertRule) → (option_map (breaks e.at) a or_else option_map (breaks e.at) b) ≡ option_map (breaks e.at) (a or_else b)
    spread (Some k) b = refl
    spread None b = refl

abbrev beside : Place → ListVersion → Result (ListVersion × Place) CertFault
beside after v = Ok (v, after)

abbrev that_stands : Tlv × Place → Result (Option Tlv × Place) Fault
that_stands x = Ok (Some x.0, x.1)

-- a version, where one is
version-then : {B : Type 0} (others : Shape) (here : Place) (f : ListVersion × Place → Result B CertFault) (Q : B → Type 0)
    → ((v : ListVersion) (after : Place) → Judged (f (v, after)) (judge others after) Q)
    → Judged (crl_version_at here >>= f) (judge (optional version then others) here) Q
unfolding crl_version_at optional_at
version-then {B} others here f Q k = by_start (begins_with 0x02 here.rest)
  where
    flat : (r : Result (Tlv × Place) Fault)
        → ((der (r >>= λ x. that_stands x) >>= λ e. crl_version_if e.0 >>= λ version. beside e.1 version) >>= f) ≡ (der r >>= λ x. crl_version_of x.0 >>= λ v. f (v, x.1))
    flat (Ok x) = by_version (crl_version_of x.0)
      where
        by_version : (r : Result ListVersion CertFault) → ((r >>= λ version. beside x.1 version) >>= f) ≡ (r >>= λ v. f (v, x.1))
        by_version (Ok v) = refl
        by_version (Err d) = refl
    flat (Err d) = refl

    by_start : (b : Bool)
        → Judged ((der (cond {A = Result (Option Tlv × Place) Fault} b
        (element_at 0x02 here >>= λ x. Ok (Some x.0, x.1)) (Ok (None, here))) >>= λ e.
        crl_version_if e.0 >>= λ version. beside e.1 version) >>= f)
        (cond (not (b || false)) (judge others here) (header_fault here or_else row_fault version (element_of here) or_else judge others (behind here))) Q
    by_start true =
        subst (λ r. Judged r (header_fault here or_else row_fault version (element_of here) or_else judge others (behind here)) Q) (sym (flat (element_at 0x02 here)))
        (element-judged 0x02 plain version_rules here crl_version_of (λ x v. f (v, x.1)) (judge others (behind here)) _ Q
        (number-judged (element_of here)) (λ v h t p. k v (behind here)))
    by_start false = k V1 here

-- ---- extensions

-- the value without its offsets is checked as the one that was read
unsaid : {A B : Type 0} (f : A → B) (r : Result A Fault) (o : Option CertFault) → Judged (der (say f r)) o (λ y. Unit {0}) → Judged (der r) o (λ x. Unit {0})
unsaid f (Ok x) o j = (j.0, tt)
unsaid f (Err d) o j = j

extensions-judged : (e : Tlv) → Judged (der (located_extensions_of e)) (judge extension_items (inside e) or_else option_map (breaks e.at) (list_rules e.content)) (λ x. Unit {0})
extensions-judged e =
    unsaid unlocated_extensions (located_extensions_of e) _
    (subst (λ r. Judged (der r) (judge extension_items (inside e) or_else option_map (breaks e.at) (list_rules e.content)) (λ x. Unit {0})) (extensions-unlocated e) (extensions-format.judged e))

wrapped-judged : (e : Tlv) → Judged (der (wrapped_extensions_of e)) (judge (extensions then nothing) (inside e) or_else None) (λ x. Unit {0})
wrapped-judged e =
    unsaid unlocated_extensions (wrapped_extensions_of e) _
    (subst (λ r. Judged (der r) (judge (extensions then nothing) (inside e) or_else None) (λ x. Unit {0})) (wrapped-unlocated e)
    (alone-judged extensions (of_tag 0x30 stated_of) Whatever (λ octets. refl) (tag-reads 0x30 extension_items list_rules stated_of Whatever (λ x. extensions-format.judged x)) e))

-- ---- entries

entry-judged : (e : Tlv) → Judged (der (entry_of e)) (judge entry_fields (inside e) or_else None) (λ x. Unit {0})
unfolding entry_of
entry-judged e =
    no_more _ _ _
    (under (integer_at (inside e)) _ _ _
    (then-judged integer (time then optional extensions then nothing) (inside e) (λ here. der (integer_at here)) _ Whatever _ refl integer-reads (λ serial p.
    under (time_at (behind (inside e))) _ _ _
    (then-judged time (optional extensions then nothing) (behind (inside e)) (λ here. der (time_at here)) _ Whatever _ refl time-reads (λ date q.
    under (optional_of 0x30 located_extensions_of (behind (behind (inside e)))) _ _ _
    (optional-judged 0x30 extension_items list_rules nothing (behind (behind (inside e))) located_extensions_of _ Whatever (λ x. Unit {0}) extensions-judged (λ x after. ends after _ _ (λ h. tt))))))))

revoked-judged : (e : Tlv) → Judged (der (revoked_of e)) (judge (items (sequence entry_fields)) (inside e) or_else None) (λ xs. Unit {0})
unfolding many
revoked-judged e =
    no_more _ _ _
    (weaker _ _ _ _ (λ x p. tt)
    (items-judged (sequence entry_fields) (each located_entry_of) Whatever (tag-reads 0x30 entry_fields no_rules entry_of Whatever (λ x. entry-judged x)) (length e.content) (inside e)))

-- ---- the whole

tbs-judged : (e : Tlv) → Judged (crl_tbs_of e) (judge tbs_fields (inside e) or_else None) (λ t. Unit {0})
unfolding crl_tbs_of
tbs-judged e =
    no_more _ _ _
    (version-then (algorithm_identifier then name then time then optional time then optional revoked_certificates then optional crl_extensions then nothing) (inside e) _ All (λ version at1.
    then-judged algorithm_identifier
    (name then time then optional time then optional revoked_certificates then optional
    crl_extensions then nothing) at1 (λ here. der (algorithm_at here)) _ (λ e a. a.whole ≡ e.whole)
    All refl algorithm-reads (λ signature p2.
    then-judged name (time then optional time then optional revoked_certificates then optional
    crl_extensions then nothing) (behind at1) (λ here. der (name_at here)) _ Whatever All refl
    name-reads (λ issuer p3.
    then-judged time (optional time then optional revoked_certificates then optional
    crl_extensions then nothing) (behind (behind at1)) (λ here. der (time_at here)) _ Whatever All
    refl time-reads (λ this p4.
    update-judged (optional revoked_certificates then optional crl_extensions then nothing) (behind (behind (behind at1))) _ All (λ next at5.
    optional-judged 0x30 (items (sequence entry_fields)) no_rules (optional crl_extensions then nothing) at5 revoked_of _ Whatever All revoked-judged (λ revoked at6.
    optional-judged 0xA0 (extensions then nothing) no_rules nothing at6 wrapped_extensions_of _ Whatever All wrapped-judged (λ extensions at7.
    no_less _ _ _
    (end-judged at7 _ None All (λ done. (refl, tt)))))))))))
  where
    All : LocatedTbsList → Type 0
    All t = Unit {0}

signed-judged : (e : Tlv) → Judged (crl_signed_of e) (judge (tbs_cert_list then algorithm_identifier then bit_string then nothing) (inside e) or_else None) (λ l. Unit {0})
unfolding crl_signed_of
signed-judged e =
    no_more _ _ _
    (element-judged 0x30 tbs_fields no_rules (inside e) crl_tbs_of _ _ (λ t. Unit {0}) All (tbs-judged (element_of (inside e))) (λ fields h1 t1 p1.
    element-judged 0x30 (object_identifier then optional any then nothing) no_rules
    (behind (inside e)) (λ x. der (algorithm_of x)) _ _ _ All
    (algorithm-judged (element_of (behind (inside e)))) (λ algorithm h2 t2 p2.
    then-judged bit_string nothing (behind (behind (inside e))) (λ here. der (bits_at here)) _ Whatever All refl bits-reads (λ signature p.
    no_less _ _ _
    (end-judged (behind (behind (behind (inside e)))) _ None All (λ done. (refl, tt)))))))
  where
    All : LocatedList → Type 0
    All l = Unit {0}

whole-judged : (octets : List ℕ) → Judged (crl_whole_of octets) (judge (certificate_list then nothing) (from_front octets)) (λ l. Unit {0})
unfolding crl_whole_of
whole-judged octets =
    element-judged 0x30 (tbs_cert_list then algorithm_identifier then bit_string then nothing)
    no_rules (from_front octets) crl_signed_of (λ e l. der (end_at e.1) >>= λ done. Ok l)
    (judge nothing (behind (from_front octets))) (λ l. Unit {0}) (λ l. Unit {0})
    (signed-judged (element_of (from_front octets))) (λ l h t p.
    no_less _ _ _
    (end-judged (behind (from_front octets)) (λ done. Ok l) None (λ l. Unit {0}) (λ e. (refl, tt))))

shape-judged : (octets : List ℕ) → Judged (shape_of octets) (shape_fault octets) (λ l. Unit {0})
unfolding shape_of
shape-judged octets = by_size (nat_lt 4194304 (length octets))
  where
    by_size : (b : Bool) → Judged (cond b (Err (breaks 0 (Der TooLarge))) (crl_whole_of octets))
        (cond b (Some (breaks 0 (Der TooLarge)))
        (judge (certificate_list then nothing) (from_front octets))) (λ l. Unit {0})
    by_size true = refl
    by_size false = whole-judged octets

-- what reading a list refuses is the first rule that is broken
pub judged : (octets : List ℕ) → refusal (crl_of octets) ≡ crl_fault octets
unfolding crl_of
judged octets = by_shape (shape_of octets) (shape_fault octets) (shape-judged octets)
  where
    by_rule : (l : LocatedList) (o : Option ListFault) → refusal (unless_broken l o) ≡ o
    by_rule l None = refl
    by_rule l (Some f) = refl

    by_shape : (r : Result LocatedList CertFault) (o : Option CertFault) → Judged r o (λ l. Unit {0})
        → refusal (as_list r >>= λ l. unless_broken l (list_fault l)) ≡ (option_map (λ f. broken f) o or_else list_fault_of r)
    by_shape (Ok l) o j = by_rule l (list_fault l) ∙ ap (λ (q : Option CertFault). option_map (λ f. broken f) q or_else list_fault l) (sym j.0)
    by_shape (Err f) o j = ap (λ (q : Option CertFault). option_map (λ f. broken f) q or_else None) (sym j)

-- ---- a call that answers what reading gives

pub fault-judged : {X : Type 0} (view : X → CertificateList) (result : Result X CrlFault)
    (octets : List ℕ) → AnswersBy view fault_in result (crl_of octets)
    → option_map fault_in (refusal result) ≡ crl_fault octets
fault-judged view (Ok x) octets a = ap (λ (r : Result CertificateList ListFault). refusal r) (sym a) ∙ judged octets
fault-judged view (Err f) octets a = ap (λ (r : Result CertificateList ListFault). refusal r) (sym a) ∙ judged octets

pub found-by : {X Y E F : Type 0} (view : X → Y) (see : E → F) (r : Result X E)
    (reading : Result Y F) (P : Y → Type 0) → AnswersBy view see r reading
    → ((y : Y) → reading ≡ Ok y → P y) → IfOk r (λ x. P (view x))
found-by view see (Ok x) reading P a f = f (view x) a
found-by view see (Err e) reading P a f = tt

pub read-by : {X Y E F : Type 0} (view : X → Y) (see : E → F) (r : Result X E) (reading : Result Y F) (y : Y) → AnswersBy view see r reading → reading ≡ Ok y → IsOkAnd r (λ x. view x ≡ y)
read-by {X} {Y} {E} {F} view see (Ok x) reading y a is = ok_is {E = F} (view x) y (sym a ∙ is)
read-by {X} {Y} {E} {F} view see (Err e) reading y a is = absurd (by_err (sym a ∙ is))
  where
    by_err : {f : F} → (let r : Result Y F = Err f in r ≡ Ok y) → ⊥
    by_err h = cc
