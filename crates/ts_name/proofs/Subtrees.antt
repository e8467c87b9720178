-- General subtrees: what is read is encoded so, what is encoded so is read, and a fault is the first rule of the table.
use Rattle.std.proofs.Common.{◌≡◌, ℕ, ◌+◌, Bool, true, false, cond, eqb, not, ◌&&◌, ◌||◌, List, [], ◌∷◌, ◌++◌, length, Option, Some, None, ◌⊎◌, inl, inr, Result, Ok, Err, refl, sym, ap, subst, ◌∙◌}
use Rattle.std.specs.Prelude.{unwrap_or}
use Rattle.std.proofs.lemmas.List.{append-nil}
use Rattle.ts_der.specs.declared.fault.DerFault.{DerFault}
use Rattle.ts_der.specs.declared.fault.DerFault.TheVariants.{IntegerForm, DefaultEncoded}
use Rattle.ts_der.specs.declared.fault.Fault.{Fault}
use Rattle.ts_der.specs.Octets.{AreOctets}
use Rattle.ts_der.specs.Answer.{◌>>=◌, Answers, refusal}
use Rattle.ts_der.specs.Rules.{first_broken, value_unless}
use Rattle.ts_der.specs.Element.{Place, Tlv, encode, encoded_at, inside}
use Rattle.ts_der.specs.Header.{header_rules}
use Rattle.ts_der.specs.Integer.{is_shortest, integer_rules}
use Rattle.ts_der.specs.Reading.{unless, at_element, begins_with, is_end, element_of, behind, next_at, element_at, end_at}
use Rattle.ts_der.proofs.Laws.{bind_ok, ok_is, element-only}
use Rattle.ts_shape.specs.declared.fault.CertRule.TheVariants.{SubtreeBounds, AddressLength}
use Rattle.ts_shape.specs.declared.fault.CertFault.{CertFault}
use Rattle.ts_shape.specs.Fault.{der, breaks}
use Rattle.ts_shape.specs.Items.{each}
use Rattle.ts_shape.specs.Fields.{IsInteger, optional_of}
use Rattle.ts_name.specs.General.{GeneralName, general_of, general_at, has_range_length}
use Rattle.ts_name.specs.GeneralTable.{general_name}
use Rattle.ts_name.specs.Subtree.{GeneralSubtree, is_zero, is_unbounded, IsDistance, IsSubtree, IsConstraint, minimum_rules, minimum_of, maximum_of, subtree_of, constraint_by_rules, constraint_of}
use Rattle.ts_name.specs.SubtreeTable.{minimum, maximum, subtree_fields, general_subtree, input, bounds_fault, address_fault, constraint_fault}
use Rattle.ts_shape.specs.Shape.{optional, nothing, plain, ◌then◌, ◌or_else◌, header_fault, row_fault, judge, der_rules, no_rules}
use Rattle.ts_shape.proofs.Endings.{end-ok, end-again}
use Rattle.ts_shape.proofs.Parts.{Value, took, element-took, der-ok}
use Rattle.ts_shape.proofs.OptionalParts.{begins-if-any, optional-found, optional-again, optional-judged}
use Rattle.ts_shape.proofs.Judging.{Judged, refusal-judged, weaker, no_more, regroup, under, then-judged, element-judged, end-judged, ends, value-judged, Whatever}
use Rattle.ts_name.proofs.Generals.{general-part, general-reads, range-is}

-- ---- minimum and maximum

distance-ok : (s z : Bool) (at : ℕ) (c x : List ℕ) → at_element at (value_unless (cond (not s) (Some IntegerForm) (cond z (Some DefaultEncoded) None)) c) ≡ Ok x → (c ≡ x) × (s ≡ true) × (z ≡ false)
distance-ok true false at c x e = (ok_is {E = Fault} c x e, refl, refl)
distance-ok true true at c x e = absurd cc
distance-ok false z at c x e = absurd cc

distance-found : (e : Tlv) (x : List ℕ) → minimum_of e ≡ Ok x → IsDistance e.content x
distance-found e x read =
    let d = distance-ok (is_shortest e.content) (is_zero e.content) e.at e.content x read in
    ((d.0, ap is_shortest (sym d.0) ∙ d.1), ap is_zero (sym d.0) ∙ d.2)

minimum-value : Value 0x80 minimum_of IsDistance
minimum-value = record { found = λ e x fits w read. distance-found e x read; again = again }
  where
    again : (e : Tlv) (x : List ℕ) → e.whole ≡ encode 0x80 e.content → IsDistance e.content x → minimum_of e ≡ Ok x
    again e x w is = rw (is.0.0, is.0.1, is.1) refl

integer-ok : (s : Bool) (at : ℕ) (c x : List ℕ) → at_element at (value_unless (cond (not s) (Some IntegerForm) None) c) ≡ Ok x → (c ≡ x) × (s ≡ true)
integer-ok true at c x e = (ok_is {E = Fault} c x e, refl)
integer-ok false at c x e = absurd cc

maximum-value : Value 0x81 maximum_of IsInteger
maximum-value = record { found = found; again = again }
  where
    found : (e : Tlv) (x : List ℕ) → AreOctets e.content → e.whole ≡ encode 0x81 e.content → maximum_of e ≡ Ok x → IsInteger e.content x
    found e x fits w read = let d = integer-ok (is_shortest e.content) e.at e.content x read in (d.0, ap is_shortest (sym d.0) ∙ d.1)

    again : (e : Tlv) (x : List ℕ) → e.whole ≡ encode 0x81 e.content → IsInteger e.content x → maximum_of e ≡ Ok x
    again e x w is = rw (is.0, is.1) refl

-- ---- what is read is encoded so

pub subtree-found : (e : Tlv) (s : GeneralSubtree) → AreOctets e.content → subtree_of e ≡ Ok s → IsSubtree e.content s
unfolding subtree_of
subtree-found e s fits read =
    let b = bind_ok (general_at (inside e)) _ s read in
    let m = bind_ok (optional_of 0x80 minimum_of b.0.1) _ s b.2 in
    let x = bind_ok (optional_of 0x81 maximum_of m.0.1) _ s m.2 in
    let d = bind_ok (end_at x.0.1) _ s x.2 in
    let same : record { base = b.0.0; minimum = unwrap_or m.0.0 (0 ∷ []); maximum = x.0.0 } ≡ s =
    ok_is {A = GeneralSubtree} {E = Fault} (record { base = b.0.0; minimum = unwrap_or m.0.0 (0 ∷ []); maximum = x.0.0 }) s d.2 in
    let first = took general-part (inside e) b.0.0 b.0.1 fits b.1 in
    let second = optional-found 0x80 minimum_of IsDistance minimum-value b.0.1 m.0.0 m.0.1 first.3 m.1 in
    let third = optional-found 0x81 maximum_of IsInteger maximum-value m.0.1 x.0.0 x.0.1 second.3 x.1 in
    let last : m.0.1.rest ≡ third.0 = third.2 ∙ (ap (λ (r : List ℕ). third.0 ++ r) (end-ok x.0.1 d.0 d.1) ∙ append-nil third.0) in
    let middle : b.0.1.rest ≡ second.0 ++ third.0 = second.2 ∙ ap (λ (r : List ℕ). second.0 ++ r) last in
    subst (λ (y : GeneralSubtree). IsSubtree e.content y) same
    (record {
      named = first.0;
      least = second.0;
      most = third.0;
      base = first.1;
      minimum = record { minimum_octets = m.0.0; encoded = second.1; value = refl };
      maximum = third.1;
      fields = first.2 ∙ ap (λ (r : List ℕ). first.0 ++ r) middle;
    })

-- ---- what is encoded so is read

pub subtree-again : (e : Tlv) (s : GeneralSubtree) → IsSubtree e.content s → subtree_of e ≡ Ok s
unfolding subtree_of
subtree-again e s is =
    let b = general-part.again (inside e) s.base is.named (is.least ++ is.most) is.base is.fields in
    let one : Place = record { rest = is.least ++ is.most; at = e.start + length is.named } in
    let absent : begins_with 0x80 is.most ≡ false =
    ap (begins_with 0x80) (sym (append-nil is.most)) ∙ begins-if-any 0x81 IsInteger is.most s.maximum is.maximum 0x80 refl [] refl in
    let m = optional-again 0x80 minimum_of IsDistance minimum-value one is.minimum.minimum_octets is.least is.most is.minimum.encoded absent refl in
    let two : Place = record { rest = is.most; at = e.start + length is.named + length is.least } in
    let x = optional-again 0x81 maximum_of IsInteger maximum-value two s.maximum is.most [] is.maximum refl (sym (append-nil is.most)) in
    let d = end-again (e.start + length is.named + length is.least + length is.most) in
    rw (b, m, x, d) (ap (λ (y : List ℕ). Ok (record { base = s.base; minimum = y; maximum = s.maximum })) (sym is.minimum.value))

pub subtree-value : Value 0x30 subtree_of IsSubtree
subtree-value = record { found = λ e s fits w read. subtree-found e s fits read; again = λ e s w is. subtree-again e s is }

-- ---- the octets of a constraint

constrained-ok : (s x : GeneralSubtree) → constraint_by_rules s ≡ Ok x → (s ≡ x) × (is_unbounded s ≡ true) × (has_range_length s.base ≡ true)
unfolding constraint_by_rules
constrained-ok s x e = by_tests (is_unbounded s) (has_range_length s.base) e
  where
    by_tests : (b c : Bool)
        → cond {A = Result GeneralSubtree CertFault} (not b) (Err (breaks 0 SubtreeBounds))
        (cond (not c) (Err (breaks 0 AddressLength)) (Ok s)) ≡ Ok x → (s ≡ x) × (b ≡ true)
        × (c ≡ true)
    by_tests true true e = (ok_is {E = CertFault} s x e, refl, refl)
    by_tests true false e = absurd cc
    by_tests false c e = absurd cc

input_again : (octets content : List ℕ) → octets ≡ encode 0x30 content → octets ≡ encode 0x30 content ++ []
input_again octets content e = e ∙ sym (append-nil (encode 0x30 content))

pub constraint-found : (octets : List ℕ) (s : GeneralSubtree) → AreOctets octets → constraint_of octets ≡ Ok s → IsConstraint octets s
unfolding constraint_of
constraint-found octets s fits read =
    let here : Place = input octets in
    let e = bind_ok (der (element_at 0x30 here)) _ s read in
    let x = bind_ok (der (subtree_of e.0.0)) _ s e.2 in
    let d = bind_ok (der (end_at e.0.1)) _ s x.2 in
    let c = constrained-ok x.0 s d.2 in
    let t = element-took 0x30 here e.0.0 e.0.1 fits (der-ok (element_at 0x30 here) e.0 e.1) in
    let whole : octets ≡ e.0.0.whole = t.whole ∙ (ap (λ (r : List ℕ). e.0.0.whole ++ r) (end-ok e.0.1 d.0 (der-ok (end_at e.0.1) d.0 d.1)) ∙ append-nil e.0.0.whole) in
    let is : IsSubtree e.0.0.content x.0 = subtree-found e.0.0 x.0 t.inner (der-ok (subtree_of e.0.0) x.0 x.1) in
    subst (λ (y : GeneralSubtree). IsConstraint octets y) c.0
    (record {
      whole = record { content = e.0.0.content; fits = t.fits; encoded = whole ∙ t.encoded; value = is };
      unbounded = c.1;
      range = c.2;
    })

pub constraint-again : (octets : List ℕ) (s : GeneralSubtree) → IsConstraint octets s → constraint_of octets ≡ Ok s
unfolding constraint_of constraint_by_rules
constraint-again octets s is =
    let content = is.whole.content in
    let e = element-only (input octets) 0x30 content [] is.whole.fits (input_again octets content is.whole.encoded) in
    let x = subtree-again (encoded_at 0 0x30 content) s is.whole.value in
    let d = end-again (0 + length (encode 0x30 content)) in
    rw (e, x, d, is.unbounded, is.range) refl

-- ---- the first rule that is broken

-- what is known of a value that was read
known : {A : Type 0} (r : Result A Fault) (o : Option CertFault) (P Q : A → Type 0) → ((x : A) → r ≡ Ok x → Q x) → Judged (der r) o P → Judged (der r) o Q
known (Ok x) o P Q f j = (j.0, f x refl)
known (Err d) o P Q f j = j

unless-ok : (o : Option DerFault) (at : ℕ) (x y : Tlv × Place) → unless o at x ≡ Ok y → x ≡ y
unless-ok None at x y e = ok_is {E = Fault} x y e
unless-ok (Some k) at x y e = absurd cc

-- the base is the first element
base-place : (here : Place) (x : GeneralName) (after : Place) → general_at here ≡ Ok (x, after) → (after ≡ behind here) × (general_of (element_of here) ≡ Ok x)
unfolding each next_at
base-place here x after read =
    let n = bind_ok (next_at here) (λ e. general_of e.0 >>= λ g. Ok (g, e.1)) (x, after) read in
    let g = bind_ok (general_of n.0.0) (λ g. Ok (g, n.0.1)) (x, after) n.2 in
    let first : (element_of here, behind here) ≡ n.0 = unless-ok (first_broken header_rules here.rest) here.at (element_of here, behind here) n.0 n.1 in
    let same : (g.0, n.0.1) ≡ (x, after) = ok_is {A = GeneralName × Place} {E = Fault} (g.0, n.0.1) (x, after) g.2 in
    let name : g.0 ≡ x = ap (λ (p : GeneralName × Place). p.0) same in (
      sym (ap (λ (p : GeneralName × Place). p.1) same) ∙ sym (ap (λ (p : Tlv × Place). p.1) first),
      ap (λ (p : Tlv × Place). general_of p.0) first ∙ (g.1 ∙ ap (λ (y : GeneralName). Ok y) name),
    )

-- a field that was absent, or stood and was read
abbrev Absent : {A : Type 0} → Place → Option A → Place → Type 0
Absent here x after = (x ≡ None) × (after ≡ here)

abbrev Stood : {A : Type 0} → (Tlv → Result A Fault) → Place → Option A → Type 0
Stood {A} value here x = (e : Tlv) × (y : A) × (x ≡ Some y) × (value e ≡ Ok y) × (is_end here.rest ≡ false)

begun : (tag : ℕ) (octets : List ℕ) → begins_with tag octets ≡ true → is_end octets ≡ false
begun tag [] e = absurd cc
begun tag (o ∷ octets) e = refl

field : {A : Type 0} (tag : ℕ) (value : Tlv → Result A Fault) (here : Place) (x : Option A) (after : Place) → optional_of tag value here ≡ Ok (x, after) → Absent here x after ⊎ Stood value here x
unfolding optional_of
field {A} tag value here x after read = by_start (begins_with tag here.rest) refl read
  where
    by_start : (b : Bool) → begins_with tag here.rest ≡ b
        → cond {A = Result (Option A × Place) Fault} b (element_at tag here >>= λ e. value e.0 >>= λ y. Ok (Some y, e.1)) (Ok (None, here)) ≡ Ok (x, after)
        → ((x ≡ None) × (after ≡ here)) ⊎ Stood value here x
    by_start false t read =
        let same : (None, here) ≡ (x, after) = ok_is {A = Option A × Place} {E = Fault} (None, here) (x, after) read in
        inl (sym (ap (λ (p : Option A × Place). p.0) same), sym (ap (λ (p : Option A × Place). p.1) same))
    by_start true t read =
        let e = bind_ok (element_at tag here) (λ e. value e.0 >>= λ y. Ok (Some y, e.1)) (x, after) read in
        let y = bind_ok (value e.0.0) (λ y. Ok (Some y, e.0.1)) (x, after) e.2 in
        let same : (Some y.0, e.0.1) ≡ (x, after) = ok_is {A = Option A × Place} {E = Fault} (Some y.0, e.0.1) (x, after) y.2 in
        inr (e.0.0, y.0, sym (ap (λ (p : Option A × Place). p.0) same), y.1, begun tag here.rest t)

-- nothing follows the base of a subtree without bounds
none_behind : (base : GeneralName) (here : Place) (m : Option (List ℕ)) (middle : Place) (x : Option (List ℕ)) (after : Place)
    → Absent here m middle ⊎ Stood minimum_of here m → Absent middle x after ⊎ Stood maximum_of middle x → after.rest ≡ []
    → is_unbounded (record { base = base; minimum = unwrap_or m (0 ∷ []); maximum = x }) ≡ is_end here.rest
none_behind base here m middle x after (inr s) other done = rw (s.2, (distance-found s.0 s.1 s.3).1, s.4) refl
none_behind base here m middle x after (inl a) (inr s) done = rw (a.0, s.2) (sym (ap (λ (p : Place). is_end p.rest) (sym a.1) ∙ s.4))
none_behind base here m middle x after (inl a) (inl b) done = rw (a.0, b.0) (sym (ap (λ (p : Place). is_end p.rest) (sym (b.1 ∙ a.1)) ∙ ap is_end done))

-- what the octets of a subtree say of it
abbrev Says : Tlv → GeneralSubtree → Type 0
Says e s =
    (is_unbounded s ≡ is_end (behind (inside e)).rest)
    × (has_range_length s.base ≡ not (eqb (element_of (inside e)).tag 0x87 && not (eqb (length (element_of (inside e)).content) 8 || eqb (length (element_of (inside e)).content) 32)))

says : (e : Tlv) (s : GeneralSubtree) → subtree_of e ≡ Ok s → Says e s
unfolding subtree_of
says e s read =
    let b = bind_ok (general_at (inside e)) _ s read in
    let m = bind_ok (optional_of 0x80 minimum_of b.0.1) _ s b.2 in
    let x = bind_ok (optional_of 0x81 maximum_of m.0.1) _ s m.2 in
    let d = bind_ok (end_at x.0.1) _ s x.2 in
    let made : GeneralSubtree = record { base = b.0.0; minimum = unwrap_or m.0.0 (0 ∷ []); maximum = x.0.0 } in
    let same : made ≡ s = ok_is {A = GeneralSubtree} {E = Fault} made s d.2 in
    let place = base-place (inside e) b.0.0 b.0.1 b.1 in
    let bounds = none_behind b.0.0 b.0.1 m.0.0 m.0.1 x.0.0 x.0.1 (field 0x80 minimum_of b.0.1 m.0.0 m.0.1 m.1) (field 0x81 maximum_of m.0.1 x.0.0 x.0.1 x.1) (end-ok x.0.1 d.0 d.1) in
    let behind_base : is_unbounded made ≡ is_end (behind (inside e)).rest = bounds ∙ ap (λ (p : Place). is_end p.rest) place.0 in
    let range = range-is (element_of (inside e)) b.0.0 place.1 in
    (ap is_unbounded (sym same) ∙ behind_base, ap (λ (y : GeneralSubtree). has_range_length y.base) (sym same) ∙ range)

pub subtree-judged : (e : Tlv) → Judged (der (subtree_of e)) (judge subtree_fields (inside e) or_else None) (Says e)
unfolding subtree_of
subtree-judged e = known (subtree_of e) _ _ (Says e) (says e) table
  where
    table : Judged (der (subtree_of e)) (judge subtree_fields (inside e) or_else None) (λ s. Unit {0})
    table =
        no_more _ _ _
        (under (general_at (inside e)) _ _ _
        (then-judged general_name (optional minimum then optional maximum then nothing) (inside e) (λ here. der (general_at here)) _ Whatever _ refl general-reads (λ base p.
        under (optional_of 0x80 minimum_of (behind (inside e))) _ _ _
        (optional-judged 0x80 plain (der_rules minimum_rules) (optional maximum then nothing)
        (behind (inside e)) minimum_of _ Whatever _
        (λ e. weaker _ _ _ _ (λ x p. tt) (value-judged minimum_rules (λ c. c) e)) (λ least after.
        under (optional_of 0x81 maximum_of after) _ _ _
        (optional-judged 0x81 plain (der_rules integer_rules) nothing after maximum_of _ Whatever _
        (λ e. weaker _ _ _ _ (λ x p. tt) (value-judged integer_rules (λ c. c) e))
        (λ most last. ends last _ _ (λ h. tt))))))))

-- the rules of a constraint
constrained-judged : (e : Tlv) (s : GeneralSubtree) → Says e s → Judged (constraint_by_rules s) (bounds_fault e or_else address_fault (element_of (inside e))) (λ s. Unit {0})
unfolding constraint_by_rules
constrained-judged e s is =
    rw (is.0, is.1) (by_tests (is_end (behind (inside e)).rest)
    (eqb (element_of (inside e)).tag 0x87
    && not (eqb (length (element_of (inside e)).content) 8
    || eqb (length (element_of (inside e)).content) 32)))
  where
    by_tests : (b c : Bool) → Judged (cond (not b) (Err (breaks 0 SubtreeBounds)) (cond (not (not c)) (Err (breaks 0 AddressLength)) (Ok s)))
        (cond b None (Some (breaks 0 SubtreeBounds)) or_else cond c (Some (breaks 0 AddressLength)) None) (λ (s : GeneralSubtree). Unit {0})
    by_tests false c = refl
    by_tests true true = refl
    by_tests true false = (refl, tt)

constraint-judged : (octets : List ℕ) → Judged (constraint_of octets) (constraint_fault octets) (λ s. Unit {0})
unfolding constraint_of
constraint-judged octets =
    let e = element_of (input octets) in
    let last : Option CertFault = bounds_fault e or_else address_fault (element_of (inside e)) in
    subst (λ o. Judged (der (element_at 0x30 (input octets)) >>= λ e. der (subtree_of e.0) >>= λ s. der (end_at e.1) >>= λ done. constraint_by_rules s) o (λ s. Unit {0}))
    (sym (regroup (header_fault (input octets) or_else row_fault general_subtree e) (judge nothing (behind (input octets))) last))
    (element-judged 0x30 subtree_fields no_rules (input octets) (λ e. der (subtree_of e)) (λ e s. der (end_at e.1) >>= λ done. constraint_by_rules s) _ (Says e) (λ s. Unit {0})
    (subtree-judged e) (λ s h t is.
    end-judged (behind (input octets)) (λ done. constraint_by_rules s) last (λ s. Unit {0}) (λ none. constrained-judged e s is)))

pub constraint-refusal : (octets : List ℕ) → refusal (constraint_of octets) ≡ constraint_fault octets
constraint-refusal octets = refusal-judged (constraint_of octets) _ _ (constraint-judged octets)

-- a call refuses what reading refuses
pub refusal-answers : {X Y E : Type 0} (view : X → Y) (result : Result X E) (reading : Result Y E) → Answers view result reading → refusal result ≡ refusal reading
refusal-answers {X} {Y} {E} view (Ok x) reading a = sym (ap (λ (r : Result Y E). refusal r) a)
refusal-answers {X} {Y} {E} view (Err f) reading a = sym (ap (λ (r : Result Y E). refusal r) a)
