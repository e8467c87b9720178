-- General names: what is read is encoded so, what is encoded so is read, and a fault is the first rule of the table.
use Rattle.std.proofs.Common.{◌≡◌, ℕ, ◌+◌, Bool, true, false, cond, eqb, not, ◌&&◌, ◌||◌, List, [], ◌++◌, length, Option, Some, None, Result, Ok, Err, refl, sym, ap, subst, ◌∙◌}
use Rattle.std.specs.Prelude.{option_map}
use Rattle.std.proofs.lemmas.List.{append-nil}
use Rattle.ts_der.specs.declared.fault.DerFault.{DerFault}
use Rattle.ts_der.specs.declared.fault.DerFault.TheVariants.{TextForm, OidForm}
use Rattle.ts_der.specs.declared.fault.Fault.{Fault}
use Rattle.ts_der.specs.Octets.{AreOctets}
use Rattle.ts_der.specs.Answer.{◌>>=◌}
use Rattle.ts_der.specs.Rules.{Rule, first_broken, value_unless}
use Rattle.ts_der.specs.Element.{Tlv, inside}
use Rattle.ts_der.specs.ObjectIdentifier.{is_oid, oid_rules}
use Rattle.ts_der.specs.Reading.{at_element, value_at, end_at}
use Rattle.ts_der.specs.Text.{is_ascii, ascii_rules}
use Rattle.ts_der.proofs.Laws.{bind_ok, ok_is}
use Rattle.ts_shape.specs.declared.fault.CertFault.{CertFault}
use Rattle.ts_name.specs.Canon.{Attr}
use Rattle.ts_shape.specs.Fault.{der, breaks}
use Rattle.ts_shape.specs.Fields.{Within}
use Rattle.ts_name.specs.Names.{name_at}
use Rattle.ts_name.specs.NameEncoding.{IsName}
use Rattle.ts_shape.specs.Items.{each}
use Rattle.ts_name.specs.General.{GeneralName, otherName, rfc822Name, dNSName, x400Address}
use Rattle.ts_name.specs.General.{directoryName, ediPartyName, uniformResourceIdentifier, iPAddress}
use Rattle.ts_name.specs.General.{registeredID, IsForm, IsGeneralName, directory_of, general_of}
use Rattle.ts_name.specs.General.{general_at, has_range_length}
use Rattle.ts_name.specs.GeneralTable.{general_name}
use Rattle.ts_name.specs.NameRows.{name}
use Rattle.ts_shape.specs.Shape.{nothing, plain, ◌then◌, ◌or_else◌, row_fault, judge, der_rules, no_rules}
use Rattle.ts_shape.proofs.Endings.{end-ok, end-again}
use Rattle.ts_shape.proofs.Parts.{Part, took}
use Rattle.ts_shape.proofs.ItemParts.{choice-found, choice-judged, form-part}
use Rattle.ts_name.proofs.NameParts.{name-part}
use Rattle.ts_shape.proofs.Judging.{Judged, no_more, under, then-judged, ends, Whatever, Reads, next-reads}
use Rattle.ts_name.proofs.NameJudging.{name-reads}

-- ---- directory names

directory-found : (e : Tlv) (rdns : List (List Attr)) → AreOctets e.content → directory_of e ≡ Ok rdns → Within 0x30 IsName e.content rdns
unfolding directory_of
directory-found e rdns fits read =
    let n = bind_ok (name_at (inside e)) _ rdns read in
    let d = bind_ok (end_at n.0.1) _ rdns n.2 in
    let t = took name-part (inside e) n.0.0 n.0.1 fits n.1 in
    let whole : e.content ≡ t.0 = t.2 ∙ (ap (λ (rest : List ℕ). t.0 ++ rest) (end-ok n.0.1 d.0 d.1) ∙ append-nil t.0) in
    let same : n.0.0 ≡ rdns = ok_is {E = Fault} n.0.0 rdns d.2 in
    subst (λ (o : List ℕ). Within 0x30 IsName o rdns) (sym whole) (subst (λ (x : List (List Attr)). Within 0x30 IsName t.0 x) same t.1)

directory-again : (e : Tlv) (rdns : List (List Attr)) → Within 0x30 IsName e.content rdns → directory_of e ≡ Ok rdns
unfolding directory_of
directory-again e rdns is =
    let n = name-part.again (inside e) rdns e.content [] is (sym (append-nil e.content)) in
    let d = end-again (e.start + length e.content) in
    rw (n, d) refl

-- ---- what is read is encoded so

-- octets that a form keeps as they are
kept-found : (form : List ℕ → GeneralName) (content : List ℕ) (P : GeneralName → Type 0)
    → P (form content) → (x : GeneralName)
    → (let r : Result GeneralName Fault = Ok (form content) in r ≡ Ok x) → P x
kept-found form content P p x read = subst P (ok_is {E = Fault} (form content) x read) p

-- octets that meet a test
tested : (kind : DerFault) (b : Bool) (at : ℕ) (x y : List ℕ) → at_element at (value_unless (cond (not b) (Some kind) None) x) ≡ Ok y → (x ≡ y) × (b ≡ true)
tested kind true at x y e = (ok_is {E = Fault} x y e, refl)
tested kind false at x y e = absurd cc

text-found : (form : List ℕ → GeneralName) (e : Tlv) (P : GeneralName → Type 0) → (is_ascii e.content ≡ true → P (form e.content))
    → (x : GeneralName) → (value_at ascii_rules (λ c. c) e >>= λ text. Ok (form text)) ≡ Ok x → P x
text-found form e P p x read =
    let b = bind_ok (value_at ascii_rules (λ c. c) e) (λ text. Ok (form text)) x read in
    let t = tested TextForm (is_ascii e.content) e.at e.content b.0 b.1 in
    subst P (ap form t.0 ∙ ok_is {E = Fault} (form b.0) x b.2) (p t.1)

oid-found : (form : List ℕ → GeneralName) (e : Tlv) (P : GeneralName → Type 0) → (is_oid e.content ≡ true → P (form e.content))
    → (x : GeneralName) → (value_at oid_rules (λ c. c) e >>= λ oid. Ok (form oid)) ≡ Ok x → P x
oid-found form e P p x read =
    let b = bind_ok (value_at oid_rules (λ c. c) e) (λ oid. Ok (form oid)) x read in
    let t = tested OidForm (is_oid e.content) e.at e.content b.0 b.1 in
    subst P (ap form t.0 ∙ ok_is {E = Fault} (form b.0) x b.2) (p t.1)

named-found : (e : Tlv) (P : GeneralName → Type 0) → AreOctets e.content → ((rdns : List (List Attr)) → Within 0x30 IsName e.content rdns → P (directoryName rdns))
    → (x : GeneralName) → (directory_of e >>= λ rdns. Ok (directoryName rdns)) ≡ Ok x → P x
named-found e P fits p x read =
    let b = bind_ok (directory_of e) (λ rdns. Ok (directoryName rdns)) x read in
    subst P (ok_is {E = Fault} (directoryName b.0) x b.2) (p b.0 (directory-found e b.0 fits b.1))

pub general-found : (e : Tlv) (x : GeneralName) → AreOctets e.content → general_of e ≡ Ok x → IsForm e.tag e.content x
unfolding general_of
general-found e x fits read =
    let P : GeneralName → Type 0 = λ x. IsForm e.tag e.content x in
    choice-found 0xA0 e _ _ P (λ t. kept-found (λ o. otherName o) e.content P (t, refl))
    (choice-found 0x81 e _ _ P (λ t. text-found (λ o. rfc822Name o) e P (λ a. (t, (refl, a))))
    (choice-found 0x82 e _ _ P (λ t. text-found (λ o. dNSName o) e P (λ a. (t, (refl, a))))
    (choice-found 0xA3 e _ _ P (λ t. kept-found (λ o. x400Address o) e.content P (t, refl))
    (choice-found 0xA4 e _ _ P (λ t. named-found e P fits (λ rdns is. (t, is)))
    (choice-found 0xA5 e _ _ P (λ t. kept-found (λ o. ediPartyName o) e.content P (t, refl))
    (choice-found 0x86 e _ _ P (λ t. text-found (λ o. uniformResourceIdentifier o) e P (λ a. (t, (refl, a))))
    (choice-found 0x87 e _ _ P (λ t. kept-found (λ o. iPAddress o) e.content P (t, refl))
    (choice-found 0x88 e _ _ P (λ t. oid-found (λ o. registeredID o) e P (λ a. (t, (refl, a))))
    (λ x r. absurd cc))))))))) x read

-- ---- what is encoded so is read

pub general-again : (e : Tlv) (x : GeneralName) → IsForm e.tag e.content x → general_of e ≡ Ok x
unfolding general_of directory_of
general-again e (otherName o) is = rw is.0 (ap (λ (c : List ℕ). Ok (otherName c)) is.1)
general-again e (rfc822Name o) is = rw (is.0, is.1.0, is.1.1) refl
general-again e (dNSName o) is = rw (is.0, is.1.0, is.1.1) refl
general-again e (x400Address o) is = rw is.0 (ap (λ (c : List ℕ). Ok (x400Address c)) is.1)
general-again e (directoryName rdns) is = rw (is.0, directory-again e rdns is.1) refl
general-again e (ediPartyName o) is = rw is.0 (ap (λ (c : List ℕ). Ok (ediPartyName c)) is.1)
general-again e (uniformResourceIdentifier o) is = rw (is.0, is.1.0, is.1.1) refl
general-again e (iPAddress o) is = rw is.0 (ap (λ (c : List ℕ). Ok (iPAddress c)) is.1)
general-again e (registeredID o) is = rw (is.0, is.1.0, is.1.1) refl

pub general-part : Part general_at IsGeneralName
general-part = form-part general_of IsForm general-found general-again

-- ---- the first rule that is broken

directory-judged : (e : Tlv) → Judged (der (directory_of e)) (judge (name then nothing) (inside e) or_else None) (λ n. Unit {0})
unfolding directory_of
directory-judged e =
    no_more _ _ _
    (under (name_at (inside e)) _ _ _
    (then-judged name nothing (inside e) (λ here. der (name_at here)) _ Whatever _ refl name-reads (λ n p. ends _ _ _ (λ h. tt))))

-- octets by rules of DER, in one form
formed-judged : (rules : List Rule) (form : List ℕ → GeneralName) (e : Tlv)
    → Judged (der (value_at rules (λ c. c) e >>= λ text. Ok (form text))) (option_map (breaks e.at) (der_rules rules e.content)) (λ x. Unit {0})
formed-judged rules form e = by_rules (first_broken rules e.content)
  where
    by_rules : (o : Option DerFault)
        → Judged (der (at_element e.at (value_unless o e.content) >>= λ text. Ok (form text)))
        (option_map (breaks e.at)
        (option_map Rattle.ts_shape.specs.declared.fault.CertRule.TheVariants.Der o))
        (λ x. Unit {0})
    by_rules None = (refl, tt)
    by_rules (Some k) = refl

named-judged : (e : Tlv) → Judged (der (directory_of e >>= λ rdns. Ok (directoryName rdns))) (judge (name then nothing) (inside e) or_else None) (λ x. Unit {0})
named-judged e = by_read (directory_of e) _ (directory-judged e)
  where
    by_read : (r : Result (List (List Attr)) Fault) (o : Option CertFault) → Judged (der r) o (λ n. Unit {0}) → Judged (der (r >>= λ rdns. Ok (directoryName rdns))) o (λ x. Unit {0})
    by_read (Ok x) o j = (j.0, tt)
    by_read (Err f) o j = j

pub general-judged : (e : Tlv) → Judged (der (general_of e)) (row_fault general_name e) (λ x. Unit {0})
unfolding general_of
general-judged e =
    choice-judged 0xA0 plain no_rules e _ _ _ (refl, tt)
    (choice-judged 0x81 plain (der_rules ascii_rules) e _ _ _ (formed-judged ascii_rules (λ o. rfc822Name o) e)
    (choice-judged 0x82 plain (der_rules ascii_rules) e _ _ _ (formed-judged ascii_rules (λ o. dNSName o) e)
    (choice-judged 0xA3 plain no_rules e _ _ _ (refl, tt)
    (choice-judged 0xA4 (name then nothing) no_rules e _ _ _ (named-judged e)
    (choice-judged 0xA5 plain no_rules e _ _ _ (refl, tt)
    (choice-judged 0x86 plain (der_rules ascii_rules) e _ _ _ (formed-judged ascii_rules (λ o. uniformResourceIdentifier o) e)
    (choice-judged 0x87 plain no_rules e _ _ _ (refl, tt)
    (choice-judged 0x88 plain (der_rules oid_rules) e _ _ _ (formed-judged oid_rules (λ o. registeredID o) e) refl))))))))

pub general-reads : Reads general_name (λ here. der (general_at here)) Whatever
unfolding each
general-reads = next-reads general_name general_of Whatever general-judged

-- ---- the length of an IP address

not_not : (b : Bool) → b ≡ not (not b)
not_not true = refl
not_not false = refl

-- what the octets of a name say of it
pub range-is : (e : Tlv) (x : GeneralName) → general_of e ≡ Ok x → has_range_length x ≡ not (eqb e.tag 0x87 && not (eqb (length e.content) 8 || eqb (length e.content) 32))
unfolding general_of
range-is e x read =
    let P : GeneralName → Type 0 = λ x. has_range_length x ≡ not (eqb e.tag 0x87 && not (eqb (length e.content) 8 || eqb (length e.content) 32)) in
    choice-found 0xA0 e _ _ P (λ t. kept-found (λ o. otherName o) e.content P (rw t refl))
    (choice-found 0x81 e _ _ P (λ t. text-found (λ o. rfc822Name o) e P (λ a. rw t refl))
    (choice-found 0x82 e _ _ P (λ t. text-found (λ o. dNSName o) e P (λ a. rw t refl))
    (choice-found 0xA3 e _ _ P (λ t. kept-found (λ o. x400Address o) e.content P (rw t refl))
    (choice-found 0xA4 e _ _ P (λ t x r. let b = bind_ok (directory_of e) (λ rdns. Ok (directoryName rdns)) x r in subst P (ok_is {E = Fault} (directoryName b.0) x b.2) (rw t refl))
    (choice-found 0xA5 e _ _ P (λ t. kept-found (λ o. ediPartyName o) e.content P (rw t refl))
    (choice-found 0x86 e _ _ P (λ t. text-found (λ o. uniformResourceIdentifier o) e P (λ a. rw t refl))
    (choice-found 0x87 e _ _ P (λ t. kept-found (λ o. iPAddress o) e.content P (rw t (not_not _)))
    (choice-found 0x88 e _ _ P (λ t. oid-found (λ o. registeredID o) e P (λ a. rw t refl))
    (λ x r. absurd cc))))))))) x read
