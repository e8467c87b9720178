-- Fields that may be absent: what is read is encoded so, what is encoded so is read, and the first rule that is broken.
use Rattle.std.proofs.Common.{◌≡◌, ℕ, ◌+◌, Bool, true, false, cond, not, ◌||◌, eqb, List, [], ◌++◌, length, Option, Some, None, Result, Ok, Err, refl, sym, ap, subst, ◌∙◌, arith}
use Rattle.std.specs.Prelude.{option_map}
use Rattle.std.proofs.lemmas.Bool.{eqb-false}
use Rattle.ts_der.specs.declared.fault.Fault.{Fault}
use Rattle.ts_der.specs.Octets.{AreOctets}
use Rattle.ts_der.specs.Answer.{◌>>=◌}
use Rattle.ts_der.specs.Element.{Place, Tlv, inside}
use Rattle.ts_der.specs.Reading.{begins_with, element_at, element_of, behind}
use Rattle.ts_der.proofs.Laws.{bind_ok, ok_is}
use Rattle.ts_shape.specs.declared.fault.CertFault.{CertFault}
use Rattle.ts_shape.specs.Fault.{der, breaks}
use Rattle.ts_shape.specs.Fields.{within, Within, IfAny, optional_of}
use Rattle.ts_shape.specs.Shape.{optional, tagged, no_other, Shape, ◌then◌, ◌or_else◌, header_fault, row_fault, judge, ContentRules}
use Rattle.ts_shape.proofs.Parts.{Value, within-part, took}
use Rattle.ts_shape.proofs.Judging.{Judged, element-judged}

-- octets that begin with an element begin with its tag
pub begins-within : {A : Type 0} {tag : ℕ} {Encodes : List ℕ → A → Type 0} {w : List ℕ} {x : A} → Within tag Encodes w x → (rest : List ℕ) → begins_with tag (w ++ rest) ≡ true
begins-within {A} {tag} is rest = subst (λ (o : List ℕ). begins_with tag (o ++ rest) ≡ true) (sym is.encoded) (same tag)
  where
    same : (n : ℕ) → eqb n n ≡ true
    same n = by_test (eqb n n) refl
      where
        by_test : (b : Bool) → eqb n n ≡ b → b ≡ true
        by_test true e = refl
        by_test false e = absurd (eqb-false n n e refl)

-- and with no other
pub begins-other : {A : Type 0} {tag : ℕ} {Encodes : List ℕ → A → Type 0} {w : List ℕ} {x : A}
    → Within tag Encodes w x → (other : ℕ) → eqb tag other ≡ false → (rest : List ℕ)
    → begins_with other (w ++ rest) ≡ false
begins-other {A} {tag} is other e rest = subst (λ (o : List ℕ). begins_with other (o ++ rest) ≡ false) (sym is.encoded) e

-- the same for a field that may be absent, before octets that do not begin so either
pub begins-if-any : {A : Type 0} (tag : ℕ) (Encodes : List ℕ → A → Type 0) (w : List ℕ) (x : Option A) → IfAny tag Encodes w x → (other : ℕ) → eqb tag other ≡ false
    → (rest : List ℕ) → begins_with other rest ≡ false → begins_with other (w ++ rest) ≡ false
begins-if-any tag Encodes w None is other e rest absent = subst (λ (o : List ℕ). begins_with other (o ++ rest) ≡ false) (sym is) absent
begins-if-any tag Encodes w (Some x) is other e rest absent = begins-other is other e rest

-- what is read is encoded so
pub optional-found : {A : Type 0} (tag : ℕ) (value : Tlv → Result A Fault) (Encodes : List ℕ → A → Type 0) → Value tag value Encodes
    → (here : Place) (x : Option A) (after : Place) → AreOctets here.rest → optional_of tag value here ≡ Ok (x, after)
    → (w : List ℕ) × IfAny tag Encodes w x × (here.rest ≡ w ++ after.rest) × AreOctets after.rest
unfolding optional_of within
optional-found {A} tag value Encodes v here x after fits read = by_tag (begins_with tag here.rest) read
  where
    by_tag : (b : Bool) → cond {A = Result (Option A × Place) Fault} b (element_at tag here >>= λ e. value e.0 >>= λ y. Ok (Some y, e.1)) (Ok (None, here)) ≡ Ok (x, after)
        → (w : List ℕ) × IfAny tag Encodes w x × (here.rest ≡ w ++ after.rest) × AreOctets after.rest
    by_tag false e =
        subst (λ (p : Option A × Place). (w : List ℕ) × IfAny tag Encodes w p.0 × (here.rest ≡ w ++ p.1.rest) × AreOctets p.1.rest) (ok_is {A = Option A × Place} {E = Fault} (None, here) (x, after) e)
        ([], refl, refl, fits)
    by_tag true e =
        let b = bind_ok (element_at tag here) (λ e. value e.0 >>= λ y. Ok (Some y, e.1)) (x, after) e in
        let y = bind_ok (value b.0.0) (λ y. Ok (Some y, b.0.1)) (x, after) b.2 in
        let read : within tag value here ≡ Ok (y.0, b.0.1) = whole b.0.0 b.0.1 y.0 b.1 y.1 in
        let f = took (within-part tag value Encodes v) here y.0 b.0.1 fits read in
        subst (λ (p : Option A × Place). (w : List ℕ) × IfAny tag Encodes w p.0
        × (here.rest ≡ w ++ p.1.rest) × AreOctets p.1.rest)
        (ok_is {A = Option A × Place} {E = Fault} (Some y.0, b.0.1) (x, after) y.2)
        (f.0, f.1, f.2, f.3)
      where
        whole : (e : Tlv) (behind : Place) (y : A) → element_at tag here ≡ Ok (e, behind) → value e ≡ Ok y → within tag value here ≡ Ok (y, behind)
        whole e behind y one two = rw (one, two) refl

-- what is encoded so, before octets that do not begin with the tag, is read
pub optional-again : {A : Type 0} (tag : ℕ) (value : Tlv → Result A Fault) (Encodes : List ℕ → A → Type 0) → Value tag value Encodes
    → (here : Place) (x : Option A) (w rest : List ℕ) → IfAny tag Encodes w x → begins_with tag rest ≡ false → here.rest ≡ w ++ rest
    → optional_of tag value here ≡ Ok (x, record { rest = rest; at = here.at + length w })
unfolding optional_of within
optional-again {A} tag value Encodes v here None w rest is absent e =
    let whole : here.rest ≡ rest = e ∙ ap (λ (o : List ℕ). o ++ rest) is in
    let none : begins_with tag here.rest ≡ false = ap (begins_with tag) whole ∙ absent in
    let place : here ≡ record { rest = rest; at = here.at + length w } = there here w whole is in
    rw none (ap (λ (p : Place). Ok (None, p)) place)
  where
    there : (here : Place) (w : List ℕ) → here.rest ≡ rest → w ≡ [] → here ≡ record { rest = rest; at = here.at + length w }
    there here w same none =
        subst (λ (o : List ℕ). here ≡ record { rest = o; at = here.at + length w }) same
        (subst (λ (o : List ℕ). here ≡ record { rest = here.rest; at = here.at + length o })
        (sym none) (ap (λ (n : ℕ). record { rest = here.rest; at = n }) (no_more here.at)))
      where
        no_more : (n : ℕ) → n ≡ n + 0
        no_more n = omega arith
optional-again {A} tag value Encodes v here (Some x) w rest is absent e =
    let stands : begins_with tag here.rest ≡ true = ap (begins_with tag) e ∙ begins-within is rest in
    let read = (within-part tag value Encodes v).again here x w rest is e in
    rw stands (some (element_at tag here) read)
  where
    after : Place
    after = record { rest = rest; at = here.at + length w }

    beside : Place → A → Result (A × Place) Fault
    beside p y = Ok (y, p)

    beside_some : Place → A → Result (Option A × Place) Fault
    beside_some p y = Ok (Some y, p)

    some : (r : Result (Tlv × Place) Fault) → (r >>= λ e. value e.0 >>= beside e.1) ≡ Ok (x, after) → (r >>= λ e. value e.0 >>= beside_some e.1) ≡ Ok (Some x, after)
    some (Ok e) read = inner (value e.0) read
      where
        inner : (q : Result A Fault) → (q >>= beside e.1) ≡ Ok (x, after) → (q >>= beside_some e.1) ≡ Ok (Some x, after)
        inner (Ok y) read = ap (λ (p : A × Place). Ok (Some p.0, p.1)) (ok_is {A = A × Place} {E = Fault} (y, e.1) (x, after) read)
        inner (Err f) read = absurd cc
    some (Err f) read = absurd cc

-- the first rule that is broken: of the field where it is, then of the others
pub optional-judged : {A B : Type 0} (tag : ℕ) (shape : Shape) (rules : ContentRules) (others : Shape) (here : Place) (value : Tlv → Result A Fault) (f : Option A × Place → Result B CertFault)
    (P : Tlv → A → Type 0) (Q : B → Type 0)
    → ((e : Tlv) → Judged (der (value e)) (judge shape (inside e) or_else option_map (breaks e.at) (rules e.content)) (P e))
    → ((x : Option A) (after : Place) → Judged (f (x, after)) (judge others after) Q)
    → Judged (der (optional_of tag value here) >>= f) (judge (optional (tagged tag shape rules no_other) then others) here) Q
unfolding optional_of
optional-judged {A} {B} tag shape rules others here value f P Q j k = by_start (begins_with tag here.rest)
  where
    flat : (r : Result (Tlv × Place) Fault)
        → (der (r >>= λ e. value e.0 >>= λ y. Ok (Some y, e.1)) >>= f) ≡ (der r >>= λ x. der (value x.0) >>= λ v. f (Some v, x.1))
    flat (Ok x) = by_value (value x.0)
      where
        by_value : (q : Result A Fault) → (der (q >>= λ y. Ok (Some y, x.1)) >>= f) ≡ (der q >>= λ v. f (Some v, x.1))
        by_value (Ok y) = refl
        by_value (Err d) = refl
    flat (Err d) = refl

    by_start : (b : Bool)
        → Judged (der (cond {A = Result (Option A × Place) Fault} b (element_at tag here >>= λ e. value e.0 >>= λ y. Ok (Some y, e.1)) (Ok (None, here))) >>= f)
        (cond (not (b || false)) (judge others here) (header_fault here or_else row_fault (tagged tag shape rules no_other) (element_of here) or_else judge others (behind here))) Q
    by_start true =
        subst (λ r. Judged r (header_fault here or_else row_fault (tagged tag shape rules no_other) (element_of here) or_else judge others (behind here)) Q) (sym (flat (element_at tag here)))
        (element-judged tag shape rules here (λ e. der (value e)) (λ x v. f (Some v, x.1)) (judge others (behind here)) (P (element_of here)) Q
        (j (element_of here)) (λ v h t p. k (Some v) (behind here)))
    by_start false = k None here
