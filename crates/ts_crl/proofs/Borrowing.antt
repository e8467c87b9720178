-- A list that was read is borrowed again.
use Rattle.std.proofs.Common.{◌≡◌, ℕ, Bool, true, false, cond, ◌||◌, List, [], Option, Some, None, Result, Ok, Err, refl, sym, ap, subst, ◌∙◌}
use Rattle.std.specs.Prelude.{nat_lt, length, map, option_map, unwrap_or, IsOk, is_ok}
use Rattle.std.specs.List.{list_any}
use Rattle.std.specs.Result.{result_unwrap_or}
use Rattle.ts_der.specs.declared.fault.DerFault.TheVariants.{TooLarge}
use Rattle.ts_der.specs.declared.fault.Fault.{Fault}
use Rattle.ts_der.specs.Answer.{◌>>=◌, refusal}
use Rattle.ts_der.specs.Element.{Place, Tlv, inside}
use Rattle.ts_der.specs.Reading.{begins_with, element_at, optional_at, next_at, end_at, many}
use Rattle.ts_der.proofs.Laws.{bind_ok, ok_is, err_not_ok}
use Rattle.ts_name.specs.Canon.{Attr}
use Rattle.ts_name.specs.Names.{rdn_at, name_of, name_at, rdns_from}
use Rattle.ts_shape.specs.declared.fault.CertRule.TheVariants.{Der}
use Rattle.ts_shape.specs.declared.fault.CertFault.{CertFault}
use Rattle.ts_shape.specs.Fault.{der, breaks}
use Rattle.ts_shape.specs.Fields.{within, optional_of}
use Rattle.ts_shape.specs.Items.{each, alone, tagged_as, of_tag, some_of, items_at}
use Rattle.ts_shape.specs.Shape.{◌or_else◌}
use Rattle.ts_shape.proofs.ItemParts.{some-walked}
use Rattle.ts_extensions.specs.Extension.{Located, located_in}
use Rattle.ts_crl.specs.declared.extension_rule.ExtensionRule.TheVariants.{OldVersion, Repeated, Values}
use Rattle.ts_crl.specs.Entries.{entries_of}
use Rattle.ts_crl.specs.Fault.{ListFault, broken, criticalCrlExtension, indirect}
use Rattle.ts_crl.specs.Findings.{findings_of}
use Rattle.ts_crl.specs.inside.Kept.{first_place, only_place, HavePlace, EntriesRead, SignedRead, WasRead}
use Rattle.ts_crl.specs.List.{LocatedEntry, LocatedList, CertificateList, unlocated_entry, unlocated_list}
use Rattle.ts_crl.specs.OwnedView.{list_of, no_list}
use Rattle.ts_crl.specs.Profile.{profile_fault, first_unprocessed, unprocessed_of_entries, names_issuer, is_indirect}
use Rattle.ts_crl.specs.Reading.{located_entry_of, revoked_of, crl_signed_of, crl_whole_of, shape_of}
use Rattle.ts_crl.specs.Rules.{entries_fault, fault_by_place, crl_version_fault, crl_algorithms_fault, placed_fault}
use Rattle.ts_crl.specs.Table.{list_fault, as_list, unless_broken, crl_fault, crl_of}
use Rattle.ts_crl.proofs.Joining.{entries-walked}
use Rattle.ts_crl.proofs.Judging.{judged}
use Rattle.ts_crl.proofs.Keeping.{neither, unmapped}

pub none-some : {A : Type 0} (x : A) → (let n : Option A = None in n ≡ Some x) → ⊥
none-some x e = absurd cc

-- ---- a name

abbrev with_names : Result (Tlv × Place) Fault → Result (List (List Attr) × Place) Fault
with_names r = r >>= λ x. many rdn_at (inside x.0) >>= λ y. Ok (y, x.1)

abbrev beside : {A : Type 0} → Place → Result A Fault → Result (A × Place) Fault
beside after r = r >>= λ y. Ok (y, after)

-- the relative distinguished names of a name that was read
pub name-kept : (here : Place) (e : Tlv) (after : Place) → element_at 0x30 here ≡ Ok (e, after) → IsOk (name_at here) → is_ok (many rdn_at (inside e)) ≡ true
unfolding name_at within name_of
name-kept here e after stood ok = by_read (many rdn_at (inside e)) (subst (λ (r : Result (Tlv × Place) Fault). IsOk (with_names r)) stood ok)
  where
    by_read : (r : Result (List (List Attr)) Fault) → IsOk (beside after r) → is_ok r ≡ true
    by_read (Ok y) ok = refl
    by_read (Err f) ok = absurd cc

pub name-again : (here : Place) (e : Tlv) (after : Place) → element_at 0x30 here ≡ Ok (e, after) → IsOk (name_at here) → name_at here ≡ Ok (rdns_from (inside e), after)
unfolding name_at within name_of
name-again here e after stood ok = ap with_names stood ∙ by_read (many rdn_at (inside e)) (name-kept here e after stood ok)
  where
    by_read : (r : Result (List (List Attr)) Fault) → is_ok r ≡ true → beside after r ≡ Ok (result_unwrap_or r [], after)
    by_read (Ok y) ok = refl
    by_read (Err f) ok = absurd cc

-- ---- a field that may be absent

abbrev some_beside : {A : Type 0} → Place → Result A Fault → Result (Option A × Place) Fault
some_beside after r = r >>= λ x. Ok (Some x, after)

pub optional-is : {A : Type 0} (tag : ℕ) (value : Tlv → Result A Fault) (here : Place)
    (o : Option Tlv) (e : Tlv) (after : Place) → optional_at tag here ≡ Ok (o, after) → o ≡ Some e
    → optional_of tag value here ≡ some_beside after (value e)
unfolding optional_at optional_of
optional-is {A} tag value here o e after stood some = by_start (begins_with tag here.rest) stood
  where
    found : Result (Tlv × Place) Fault → Result (Option Tlv × Place) Fault
    found r = r >>= λ x. Ok (Some x.0, x.1)

    valued : Result (Tlv × Place) Fault → Result (Option A × Place) Fault
    valued r = r >>= λ x. some_beside x.1 (value x.0)

    none : Result (Option Tlv × Place) Fault
    none = Ok (None, here)

    by_element : (r : Result (Tlv × Place) Fault) → found r ≡ Ok (o, after) → valued r ≡ some_beside after (value e)
    by_element (Ok x) is =
        let same : (Some x.0, x.1) ≡ (o, after) = ok_is {A = Option Tlv × Place} {E = Fault} (Some x.0, x.1) (o, after) is in
        let is_e : x.0 ≡ e = ap (λ (p : Option Tlv). unwrap_or p e) (ap (λ (p : Option Tlv × Place). p.0) same ∙ some) in
        ap (λ (p : Place). some_beside p (value x.0)) (ap (λ (p : Option Tlv × Place). p.1) same) ∙ ap (λ (t : Tlv). some_beside after (value t)) is_e
    by_element (Err f) is = absurd cc

    by_start : (b : Bool) → cond b (found (element_at tag here)) none ≡ Ok (o, after) → cond b (valued (element_at tag here)) (Ok (None, here)) ≡ some_beside after (value e)
    by_start true is = by_element (element_at tag here) is
    by_start false is =
        let same : (None, here) ≡ (o, after) = ok_is {A = Option Tlv × Place} {E = Fault} (None, here) (o, after) is in
        absurd (none-some e (ap (λ (p : Option Tlv × Place). p.0) same ∙ some))

-- entries that were read, and what was found in them
pub entries-kept : (first : Option CertFault) (here : Place) (o : Option Tlv) (e : Tlv) (after : Place) → optional_at 0x30 here ≡ Ok (o, after) → o ≡ Some e → EntriesRead first here
    → (revoked_of e ≡ Ok (items_at located_entry_of (inside e))) × (findings_of (items_at located_entry_of (inside e)) ≡ only_place first)
entries-kept first here o e after stood some (x, read, found) =
    let b = bind_ok (revoked_of e) (λ es. beside_some es) x (sym (optional-is 0x30 revoked_of here o e after stood some) ∙ read) in
    let walked = entries-walked e b.0 b.1 in
    let there : HavePlace first (Some b.0) =
    subst (λ (y : Option (List LocatedEntry) × Place). HavePlace first y.0)
    (sym (ok_is {A = Option (List LocatedEntry) × Place} {E = Fault} (Some b.0, after) x b.2))
    found in
    (walked.1, ap findings_of (sym walked.2) ∙ there)
  where
    beside_some : List LocatedEntry → Result (Option (List LocatedEntry) × Place) Fault
    beside_some es = Ok (Some es, after)

pub entries-again : (first : Option CertFault) (here : Place) (o : Option Tlv) (e : Tlv) (after : Place) → optional_at 0x30 here ≡ Ok (o, after) → o ≡ Some e → EntriesRead first here
    → optional_of 0x30 revoked_of here ≡ Ok (Some (items_at located_entry_of (inside e)), after)
entries-again first here o e after stood some was =
    optional-is 0x30 revoked_of here o e after stood some ∙ ap (some_beside after) (entries-kept first here o e after stood some was).0

-- ---- extensions

abbrev at_end : Result (List Located × Place) Fault → Result (List Located) Fault
at_end r = r >>= λ x. end_at x.1 >>= λ done. Ok x.0

abbrev as_items : Result Tlv Fault → Result (List Located) Fault
as_items r = r >>= some_of located_in

abbrev in_next : Result (Tlv × Place) Fault → Result (List Located × Place) Fault
in_next r = r >>= λ x. beside x.1 (as_items (tagged_as 0x30 x.0))

-- those within a SEQUENCE that was read
pub extensions-kept : (e inner set : Tlv) (after : Place) → next_at (inside e) ≡ Ok (inner, after) → tagged_as 0x30 inner ≡ Ok set → IsOk (alone (of_tag 0x30 (some_of located_in)) e)
    → some_of located_in set ≡ Ok (items_at located_in (inside set))
unfolding alone each of_tag
extensions-kept e inner set after stood tagged ok =
    some-walked located_in set
    (sym (by_read (some_of located_in set)
    (subst (λ (r : Result Tlv Fault). IsOk (at_end (beside after (as_items r)))) tagged
    (subst (λ (r : Result (Tlv × Place) Fault). IsOk (at_end (in_next r))) stood ok))))
  where
    by_read : (r : Result (List Located) Fault) → IsOk (at_end (beside after r)) → refusal r ≡ None
    by_read (Ok y) ok = refl
    by_read (Err f) ok = absurd cc

pub extensions-again : (e inner set : Tlv) (after : Place) → next_at (inside e) ≡ Ok (inner, after)
    → tagged_as 0x30 inner ≡ Ok set → (done : Unit {0}) → end_at after ≡ Ok done
    → IsOk (alone (of_tag 0x30 (some_of located_in)) e)
    → alone (of_tag 0x30 (some_of located_in)) e ≡ Ok (items_at located_in (inside set))
unfolding alone each of_tag
extensions-again e inner set after stood tagged done end ok =
    ap (λ (r : Result (Tlv × Place) Fault). at_end (in_next r)) stood
    ∙ (ap (λ (r : Result Tlv Fault). at_end (beside after (as_items r))) tagged
    ∙ (ap (λ (r : Result (List Located) Fault). at_end (beside after r)) (extensions-kept e inner set after stood tagged ok)
    ∙ ap (λ (r : Result (Unit {0}) Fault). r >>= λ d. Ok (items_at located_in (inside set))) end))

-- ---- a list

-- where the whole was read, so was what is signed
pub signed-kept : (first : Option CertFault) (octets : List ℕ) (here : Place) (e : Tlv)
    (after : Place) → here ≡ record { rest = octets; at = 0 } → element_at 0x30 here ≡ Ok (e, after)
    → (l : LocatedList) → crl_whole_of octets ≡ Ok l
    → HavePlace first l.tbsCertList.revokedCertificates → SignedRead first e
unfolding crl_whole_of
signed-kept first octets here e after front stood l read found =
    let b = bind_ok (der (element_at 0x30 (record { rest = octets; at = 0 }))) (λ x. crl_signed_of x.0 >>= λ signed. der (end_at x.1) >>= λ done. Ok signed) l read in
    let same : (e, after) ≡ b.0 = ok_is {A = Tlv × Place} {E = CertFault} (e, after) b.0 (ap der (sym stood ∙ ap (element_at 0x30) front) ∙ b.1) in
    let s = bind_ok (crl_signed_of b.0.0) (λ signed. der (end_at b.0.1) >>= λ done. Ok signed) l b.2 in
    let d = bind_ok (der (end_at b.0.1)) (λ done. Ok s.0) l s.2 in
    (s.0, ap (λ (p : Tlv × Place). crl_signed_of p.0) same ∙ s.1, subst (λ (x : LocatedList). HavePlace first x.tbsCertList.revokedCertificates) (sym (ok_is {E = CertFault} s.0 l d.2)) found)

pub whole-kept : (octets : List ℕ) (l : LocatedList) → shape_of octets ≡ Ok l → crl_whole_of octets ≡ Ok l
unfolding shape_of
whole-kept octets l read = by_size (nat_lt 4194304 (length octets)) read
  where
    by_size : (b : Bool) → cond b (Err (breaks 0 (Der TooLarge))) (crl_whole_of octets) ≡ Ok l → crl_whole_of octets ≡ Ok l
    by_size true e = absurd cc
    by_size false e = e

-- what was read is a list
pub list-is : (first : Option CertFault) (octets : List ℕ) → (w : WasRead first octets) → crl_of octets ≡ Ok (unlocated_list w.list)
unfolding crl_of
list-is first octets w =
    ap (λ (r : Result LocatedList CertFault). as_list r >>= λ l. unless_broken l (list_fault l)) w.shape ∙ ap (unless_broken w.list) w.unbroken

-- the list that was borrowed is that list
-- the list that they are
pub read-list : (first : Option CertFault) (octets : List ℕ) → (w : WasRead first octets) → list_of octets ≡ unlocated_list w.list
read-list first octets w = ap (λ (r : Result CertificateList ListFault). result_unwrap_or r no_list) (list-is first octets w)

pub borrowed-is : (first : Option CertFault) (octets borrowed : List ℕ) → borrowed ≡ octets → WasRead first octets
    → (l : LocatedList) → crl_whole_of borrowed ≡ Ok l → crl_of octets ≡ Ok (unlocated_list l)
borrowed-is first octets borrowed same w l read =
    list-is first octets w ∙ ap (λ (x : LocatedList). Ok (unlocated_list x)) (ok_is {E = CertFault} w.list l (sym (whole-kept octets w.list w.shape) ∙ (ap crl_whole_of (sym same) ∙ read)))

pub never-borrowed : (first : Option CertFault) (octets borrowed : List ℕ) (f : CertFault) → borrowed ≡ octets → WasRead first octets → crl_whole_of borrowed ≡ Err f → ⊥
never-borrowed first octets borrowed f same w refused = err_not_ok {E = CertFault} (sym refused ∙ (ap crl_whole_of same ∙ whole-kept octets w.list w.shape))

-- ---- what was found in the entries of a list that breaks no rule

none-false : (b : Bool) (f : ListFault) → cond b (Some f) None ≡ None → b ≡ false
none-false true f e = absurd cc
none-false false f e = refl

last-false : (a b : Bool) → a || b ≡ false → b ≡ false
last-false true b e = absurd cc
last-false false b e = e

pub quiet : (l : LocatedList) → list_fault l ≡ None → HavePlace (first_place l.tbsCertList.revokedCertificates) l.tbsCertList.revokedCertificates
quiet l unbroken =
    let c = unlocated_list l in
    let rules = neither (option_map (λ f. broken f) (placed_fault l)) (profile_fault c) unbroken in
    let values = neither (crl_algorithms_fault l or_else crl_version_fault l.tbsCertList.version l
    or_else fault_by_place Repeated l) (fault_by_place Values l)
    (unmapped (λ f. broken f) (placed_fault l) rules.0) in
    let repeats = neither (crl_algorithms_fault l or_else crl_version_fault l.tbsCertList.version l) (fault_by_place Repeated l) values.0 in
    let numbered = neither _ _ rules.1 in
    let relative = neither _ _ numbered.0 in
    let indirects = neither _ _ relative.0 in
    let criticals = neither _ _ indirects.0 in
    let processed = neither _ (unprocessed_of_entries (entries_of c)) (unmapped (λ oid. criticalCrlExtension oid) (first_unprocessed c) criticals.1) in
    let own = last-false _ (list_any names_issuer (entries_of c)) (none-false (is_indirect c) indirect indirects.1) in
    by_entries l.tbsCertList.revokedCertificates (neither _ _ repeats.1).0 (neither _ _ values.1).0 processed.1 own
  where
    by_entries : (o : Option (List LocatedEntry)) → entries_fault Repeated (unwrap_or o []) ≡ None → entries_fault Values (unwrap_or o []) ≡ None
        → unprocessed_of_entries (unwrap_or (option_map (map unlocated_entry) o) []) ≡ None
        → list_any names_issuer (unwrap_or (option_map (map unlocated_entry) o) []) ≡ false
        → HavePlace (first_place o) o
    by_entries None r v u n = tt
    by_entries (Some es) r v u n = λ i. record { old_version = entries_fault OldVersion es; repeated = r i; value = v i; unprocessed = u i; issuer = n i }

-- ---- the first rule that is broken

pub unfaulted : (first : Option CertFault) (octets : List ℕ) → WasRead first octets → crl_fault octets ≡ None
unfaulted first octets w = sym (judged octets) ∙ ap (λ (r : Result CertificateList ListFault). refusal r) (list-is first octets w)

pub faulted : (octets : List ℕ) (f : ListFault) → crl_of octets ≡ Err f → crl_fault octets ≡ Some f
faulted octets f e = sym (judged octets) ∙ ap (λ (r : Result CertificateList ListFault). refusal r) e
