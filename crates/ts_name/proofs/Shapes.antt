-- The shapes of a name: what is read is encoded so, and what is encoded so is read.
use Rattle.std.proofs.Common.{◌≡◌, ◌≢◌, ℕ, ◌+◌, ◌^◌, ◌<◌, Bool, true, false, not, ◌&&◌, ltb, cond, List, [], ◌∷◌, ◌++◌, length, Option, Some, None, Result, Ok, Err, refl, sym, ap, subst, ◌∙◌, arith}
use Rattle.std.specs.Prelude.{map}
use Rattle.std.specs.List.{flat_map, AllByRecursion}
use Rattle.std.proofs.lemmas.Bool.{and_parts, ltb-true, true≢false}
use Rattle.std.proofs.lemmas.List.{append-nil}
use Rattle.ts_der.specs.declared.fault.DerFault.{DerFault}
use Rattle.ts_der.specs.declared.fault.DerFault.TheVariants.{Empty, SetOrder}
use Rattle.ts_der.specs.declared.fault.Fault.{Fault}
use Rattle.ts_der.specs.Octets.{AreOctets}
use Rattle.ts_der.specs.Answer.{◌>>=◌}
use Rattle.ts_der.specs.Rules.{first_broken, value_unless}
use Rattle.ts_der.specs.Element.{Place, Tlv, Fits, encode, inside}
use Rattle.ts_der.specs.ObjectIdentifier.{is_oid, oid_rules}
use Rattle.ts_der.specs.Reading.{is_end, fault_at, at_element, value_at, next_at, element_at, many, end_at}
use Rattle.ts_der.specs.SetOf.{ascends, Member, member_octets, order_at, set_of_at}
use Rattle.ts_der.proofs.Sets.{members-again}
use Rattle.ts_der.proofs.OctetLists.{AreOctets-back}
use Rattle.ts_der.proofs.Elements.{next-found}
use Rattle.ts_der.proofs.Laws.{bind_ok, ok_is, element-found, element-only, next-only}
use Rattle.ts_shape.proofs.Endings.{end-ok, end-again}
use Rattle.ts_name.specs.Canon.{Attr}
use Rattle.ts_name.specs.Names.{text_rules, attribute_of, attribute_at, rdn_of, name_of}
use Rattle.ts_shape.specs.Items.{some_rules}
use Rattle.ts_name.specs.NameEncoding.{attribute_content, encoded_attribute, rdn_content, IsAttribute, IsRdn, IsName}
use Rattle.ts_shape.proofs.Codecs.{Codec, many-found, many-again}

-- a value that was located
value-ok : {A : Type 0} (o : Option DerFault) (at : ℕ) (x y : A) → at_element at (value_unless o x) ≡ Ok y → (o ≡ None) × (x ≡ y)
value-ok None at x y e = (refl, ok_is {E = Fault} x y e)
value-ok (Some k) at x y e = absurd cc

oid-ok : (c : List ℕ) → cond (not (is_oid c)) (Some Rattle.ts_der.specs.declared.fault.DerFault.TheVariants.OidForm) None ≡ None → is_oid c ≡ true
oid-ok c e = by_test (is_oid c) e
  where
    by_test : (b : Bool) → cond (not b) (Some Rattle.ts_der.specs.declared.fault.DerFault.TheVariants.OidForm) None ≡ None → b ≡ true
    by_test true e = refl
    by_test false e = absurd cc

-- the parts of an attribute that was read
pub record Parts (e : Tlv) (a : Attr) : Type 0 where
  pub kind : Tlv
  pub middle : Place
  pub value : Tlv
  pub behind : Place
  pub kind-read : element_at 0x06 (inside e) ≡ Ok (kind, middle)
  pub kind-is : is_oid kind.content ≡ true
  pub value-read : next_at middle ≡ Ok (value, behind)
  pub text-is : first_broken (text_rules value.tag) value.content ≡ None
  pub done : behind.rest ≡ []
  pub made : record { kind = kind.content; tag = value.tag; value = value.content } ≡ a

parts : (e : Tlv) (a : Attr) → attribute_of e ≡ Ok a → Parts e a
unfolding attribute_of
parts e a read =
    let k = bind_ok (element_at 0x06 (inside e))
    (λ kind. value_at oid_rules (λ c. c) kind.0 >>= λ oid. next_at kind.1 >>= λ value. value_at
    (text_rules value.0.tag) (λ c. c) value.0 >>= λ text. end_at value.1 >>= λ done. Ok
    (record { kind = oid; tag = value.0.tag; value = text })) a read in
    let o = bind_ok (value_at oid_rules (λ c. c) k.0.0)
    (λ oid. next_at k.0.1 >>= λ value. value_at (text_rules value.0.tag)
    (λ c. c) value.0 >>= λ text. end_at value.1 >>= λ done. Ok
    (record { kind = oid; tag = value.0.tag; value = text })) a k.2 in
    let v = bind_ok (next_at k.0.1)
    (λ value. value_at (text_rules value.0.tag) (λ c. c) value.0 >>= λ text. end_at value.1 >>=
    λ done. Ok (record { kind = o.0; tag = value.0.tag; value = text })) a o.2 in
    let t = bind_ok (value_at (text_rules v.0.0.tag) (λ c. c) v.0.0) (λ text. end_at v.0.1 >>= λ done. Ok (record { kind = o.0; tag = v.0.0.tag; value = text })) a v.2 in
    let d = bind_ok (end_at v.0.1) (λ done. Ok (record { kind = o.0; tag = v.0.0.tag; value = t.0 })) a t.2 in
    let oid = value-ok (first_broken oid_rules k.0.0.content) k.0.0.at k.0.0.content o.0 o.1 in
    let text = value-ok (first_broken (text_rules v.0.0.tag) v.0.0.content) v.0.0.at v.0.0.content t.0 t.1 in
    let made : record { kind = o.0; tag = v.0.0.tag; value = t.0 } ≡ a = ok_is {A = Attr} {E = Fault} (record { kind = o.0; tag = v.0.0.tag; value = t.0 }) a d.2 in
    record {
      kind = k.0.0;
      middle = k.0.1;
      value = v.0.0;
      behind = v.0.1;
      kind-read = k.1;
      kind-is = oid-ok k.0.0.content oid.0;
      value-read = v.1;
      text-is = text.0;
      done = end-ok v.0.1 d.0 d.1;
      made = ap (λ (x : List ℕ). record { kind = x; tag = v.0.0.tag; value = v.0.0.content }) oid.1 ∙ (ap (λ (x : List ℕ). record { kind = o.0; tag = v.0.0.tag; value = x }) text.1 ∙ made);
    }

attribute-found : (e : Tlv) (a : Attr) → AreOctets e.content → attribute_of e ≡ Ok a → (e.content ≡ attribute_content a) × IsAttribute a
unfolding attribute_content
attribute-found e a fits read =
    let p = parts e a read in
    let k = element-found 0x06 (inside e) p.kind p.middle fits p.kind-read in
    let ks = k.0 in
    let first : e.content ≡ encode p.kind.tag p.kind.content ++ p.middle.rest = ks.whole ∙ ap (λ (w : List ℕ). w ++ p.middle.rest) ks.encoded in
    let second : e.content ≡ encode 0x06 p.kind.content ++ p.middle.rest = first ∙ ap (λ (t : ℕ). encode t p.kind.content ++ p.middle.rest) k.1 in
    let v = next-found p.middle p.value p.behind (AreOctets-back (encode 0x06 p.kind.content) p.middle.rest (subst AreOctets second fits)) p.value-read in
    let last : p.middle.rest ≡ encode p.value.tag p.value.content = v.whole
    ∙ (ap (λ (w : List ℕ). w ++ p.behind.rest) v.encoded
    ∙ (ap (λ (w : List ℕ). encode p.value.tag p.value.content ++ w) p.done
    ∙ append-nil (encode p.value.tag p.value.content))) in
    let whole : e.content ≡ encode 0x06 p.kind.content ++ encode p.value.tag p.value.content = second ∙ ap (λ (w : List ℕ). encode 0x06 p.kind.content ++ w) last in
    let is : IsAttribute (record { kind = p.kind.content; tag = p.value.tag; value = p.value.content }) = record { kind = p.kind-is; value = v.fits; text = p.text-is } in
    subst (λ (b : Attr). (e.content ≡ encode 0x06 b.kind ++ encode b.tag b.value) × IsAttribute b) p.made (whole, is)

oid-short : (c : List ℕ) → is_oid c ≡ true → length c < 2 ^ 32
unfolding is_oid
oid-short c e =
    let a = and_parts (ltb 0 (length c) && ltb (length c) 129) _ e in
    let b = and_parts (ltb 0 (length c)) (ltb (length c) 129) a.0 in
    let lt = ltb-true (length c) 129 b.1 in
    omega arith

attribute-again : (e : Tlv) (a : Attr) → IsAttribute a → e.content ≡ attribute_content a → attribute_of e ≡ Ok a
unfolding attribute_of attribute_content
attribute-again e a is whole =
    let fits : Fits 0x06 a.kind = record { octet = omega arith; low = omega arith; short = oid-short a.kind is.kind } in
    let kind = element-only (inside e) 0x06 a.kind (encode a.tag a.value) fits whole in
    let middle : Place = record { rest = encode a.tag a.value; at = e.start + length (encode 0x06 a.kind) } in
    let value = next-only middle a.tag a.value [] is.value (sym (append-nil (encode a.tag a.value))) in
    let done = end-again (middle.at + length (encode a.tag a.value)) in
    rw (kind, is.kind, value, is.text, done) refl

pub attribute-codec : Codec 0x30 attribute_of attribute_content IsAttribute
attribute-codec = record { found = attribute-found; again = attribute-again }

-- ---- relative distinguished names

member : Attr → Member
member a = record { tag = 0x30; content = attribute_content a }

same_members : (attributes : List Attr) → map member_octets (map member attributes) ≡ map encoded_attribute attributes
unfolding member
same_members [] = refl
same_members (a ∷ attributes) = ap (λ (xs : List (List ℕ)). encoded_attribute a ∷ xs) (same_members attributes)

same_whole : (attributes : List Attr) → flat_map member_octets (map member attributes) ≡ flat_map encoded_attribute attributes
unfolding member
same_whole [] = refl
same_whole (a ∷ attributes) = ap (λ (xs : List ℕ). encoded_attribute a ++ xs) (same_whole attributes)

members_fit : (attributes : List Attr) → AllByRecursion (λ a. IsAttribute a × Fits 0x30 (attribute_content a)) attributes → AllByRecursion (λ m. Fits m.tag m.content) (map member attributes)
unfolding member
members_fit [] each = tt
members_fit (a ∷ attributes) each = (each.0.1, members_fit attributes each.1)

set_is_ordered : (e : Tlv) (attributes : List Attr) → AllByRecursion (λ a. IsAttribute a × Fits 0x30 (attribute_content a)) attributes → e.content ≡ flat_map encoded_attribute attributes
    → order_at e ≡ Ok (ascends (map encoded_attribute attributes))
unfolding order_at
set_is_ordered e attributes each whole =
    let a = members-again (map member attributes) e.start (members_fit attributes each) in
    let place : many next_at (inside e) ≡ Ok a.0 = ap (λ (rest : List ℕ). many next_at (record { rest = rest; at = e.start })) (whole ∙ sym (same_whole attributes)) ∙ a.1 in
    rw place (ap (λ (ws : List (List ℕ)). Ok (ascends ws)) (a.2 ∙ same_members attributes))

in_order : (e : Tlv) (b : Bool) (u : Unit {0}) → order_at e ≡ Ok b → set_of_at e ≡ Ok u → b ≡ true
unfolding set_of_at
in_order e b u o s = by_order b (sym (rw o at (sym s)))
  where
    by_order : (b : Bool) → cond {A = Result (Unit {0}) Fault} b (Ok tt) (Err (fault_at e.at SetOrder)) ≡ Ok u → b ≡ true
    by_order true e = refl
    by_order false e = absurd cc

some-ok : (c : List ℕ) → cond (is_end c) (Some Empty) None ≡ None → is_end c ≡ false
some-ok c e = by_test (is_end c) e
  where
    by_test : (b : Bool) → cond b (Some Empty) None ≡ None → b ≡ false
    by_test false e = refl
    by_test true e = absurd cc

rdn-found : (e : Tlv) (attributes : List Attr) → AreOctets e.content → rdn_of e ≡ Ok attributes → (e.content ≡ rdn_content attributes) × IsRdn attributes
unfolding rdn_of rdn_content
rdn-found e attributes fits read =
    let m = bind_ok (many attribute_at (inside e)) (λ attrs. value_at some_rules (λ c. c) e >>= λ some. set_of_at e >>= λ ordered. Ok attrs) attributes read in
    let v = bind_ok (value_at some_rules (λ c. c) e) (λ some. set_of_at e >>= λ ordered. Ok m.0) attributes m.2 in
    let o = bind_ok (set_of_at e) (λ ordered. Ok m.0) attributes v.2 in
    let same : m.0 ≡ attributes = ok_is {E = Fault} m.0 attributes o.2 in
    let items = many-found 0x30 attribute_of attribute_content IsAttribute attribute-codec (inside e) m.0 fits m.1 in
    let some = value-ok (first_broken some_rules e.content) e.at e.content v.0 v.1 in
    let not_empty : m.0 ≢ [] = λ none. true_false (sym (ap is_end (items.whole ∙ ap (λ (xs : List Attr). flat_map encoded_attribute xs) none)) ∙ some-ok e.content some.0) in
    let ordered : ascends (map encoded_attribute m.0) ≡ true = in_order e (ascends (map encoded_attribute m.0)) o.0 (set_is_ordered e m.0 items.each items.whole) o.1 in
    subst (λ (xs : List Attr). (e.content ≡ flat_map encoded_attribute xs) × IsRdn xs) same (items.whole, record { some = not_empty; each = items.each; ordered = ordered })
  where
    true_false : true ≡ false → ⊥
    true_false h = true≢false h

not_end : (attributes : List Attr) → attributes ≢ [] → is_end (flat_map encoded_attribute attributes) ≡ false
not_end [] ne = absurd (ne refl)
not_end (a ∷ attributes) ne = refl

pub rdn-again : (e : Tlv) (attributes : List Attr) → IsRdn attributes → e.content ≡ rdn_content attributes → rdn_of e ≡ Ok attributes
unfolding rdn_of rdn_content set_of_at
rdn-again e attributes is whole =
    let items = many-again 0x30 attribute_of attribute_content IsAttribute attribute-codec (inside e) attributes (record { each = is.each; whole = whole }) in
    let some : is_end e.content ≡ false = ap is_end whole ∙ not_end attributes is.some in
    let ordered : order_at e ≡ Ok true = set_is_ordered e attributes is.each whole ∙ ap (λ (b : Bool). Ok b) is.ordered in
    rw (items, some, ordered) refl

-- one attribute is a set
pub rdn-single : (e : Tlv) (x : Attr) → AreOctets e.content → many attribute_at (inside e) ≡ Ok (x ∷ []) → rdn_of e ≡ Ok (x ∷ [])
unfolding rdn_content
rdn-single e x fits read =
    let items = many-found 0x30 attribute_of attribute_content IsAttribute attribute-codec (inside e) (x ∷ []) fits read in
    rdn-again e (x ∷ []) (record { some = λ none. absurd cc; each = items.each; ordered = refl }) items.whole

pub rdn-codec : Codec 0x31 rdn_of rdn_content IsRdn
rdn-codec = record { found = rdn-found; again = rdn-again }

-- ---- names

pub name-found : (e : Tlv) (rdns : List (List Attr)) → AreOctets e.content → name_of e ≡ Ok rdns → IsName e.content rdns
unfolding name_of
name-found e rdns fits read =
    let items = many-found 0x31 rdn_of rdn_content IsRdn rdn-codec (inside e) rdns fits read in
    record { each = items.each; whole = items.whole }

pub name-again : (e : Tlv) (rdns : List (List Attr)) → IsName e.content rdns → name_of e ≡ Ok rdns
unfolding name_of
name-again e rdns is = many-again 0x31 rdn_of rdn_content IsRdn rdn-codec (inside e) rdns (record { each = is.each; whole = is.whole })

-- the attributes of a relative distinguished name that was read
pub rdn_items : (e : Tlv) (attributes : List Attr) → rdn_of e ≡ Ok attributes → many attribute_at (inside e) ≡ Ok attributes
unfolding rdn_of
rdn_items e attributes read =
    let m = bind_ok (many attribute_at (inside e)) (λ attrs. value_at some_rules (λ c. c) e >>= λ some. set_of_at e >>= λ ordered. Ok attrs) attributes read in
    let v = bind_ok (value_at some_rules (λ c. c) e) (λ some. set_of_at e >>= λ ordered. Ok m.0) attributes m.2 in
    let o = bind_ok (set_of_at e) (λ ordered. Ok m.0) attributes v.2 in
    m.1 ∙ ap (λ (xs : List Attr). Ok xs) (ok_is {E = Fault} m.0 attributes o.2)
