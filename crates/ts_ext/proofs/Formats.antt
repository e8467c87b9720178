-- A format: how a value is read from an element, how its content encodes it, and the first rule that it breaks. From it
-- follows what a reader promises.
use Rattle.std.proofs.Common.{◌≡◌, ℕ, List, [], Option, Some, None, Result, Ok, Err, refl, sym, ap, subst, ◌∙◌}
use Rattle.std.specs.Prelude.{IfOk, IsOkAnd, option_map, ok_or, is_some, not}
use Rattle.ts_der.specs.declared.fault.DerFault.{DerFault}
use Rattle.ts_der.specs.declared.fault.Fault.{Fault}
use Rattle.ts_der.specs.Octets.{AreOctets}
use Rattle.ts_der.specs.Answer.{Answers, refusal}
use Rattle.ts_der.specs.Rules.{Rule, first_broken, value_unless}
use Rattle.ts_der.specs.Element.{Tlv}
use Rattle.ts_der.specs.Reading.{at_element, value_at}
use Rattle.ts_der.proofs.Laws.{ok_is}
use Rattle.ts_shape.specs.declared.fault.CertRule.TheVariants.{Der}
use Rattle.ts_shape.specs.Fault.{about, der, breaks}
use Rattle.ts_shape.specs.Shape.{Shape, ContentRules, plain, der_rules, one_rule}
use Rattle.ts_shape.proofs.Judging.{Judged, refusal-judged, weaker, value-judged}
use Rattle.ts_shape.proofs.Parts.{Value}
use Rattle.ts_shape.proofs.Walks.{IfOk-answers, IsOkAnd-answers}
use Rattle.ts_ext.specs.Inner.{inner_fault}

pub record Format {A : Type 0} (value : Tlv → Result A Fault) (Is : List ℕ → A → Type 0) (shape : Shape) (rules : ContentRules) : Type 0 where
  pub found : (e : Tlv) (x : A) → AreOctets e.content → value e ≡ Ok x → Is e.content x
  pub again : (e : Tlv) (x : A) → Is e.content x → value e ≡ Ok x
  pub judged : (e : Tlv) → Judged (der (value e)) (inner_fault shape rules e) (λ x. Unit {0})

-- ---- what a reader promises

pub is_found : {X A : Type 0} {value : Tlv → Result A Fault} {Is : List ℕ → A → Type 0} {shape : Shape} {rules : ContentRules} → Format value Is shape rules
    → (e : Tlv) (r : Result X Fault) (view : X → A) → AreOctets e.content → Answers view r (value e) → IfOk r (λ x. Is e.content (view x))
is_found {X} {A} {value} {Is} format e r view fits answers = IfOk-answers view r (value e) (Is e.content) answers (λ x read. format.found e x fits read)

pub is_read : {X A : Type 0} {value : Tlv → Result A Fault} {Is : List ℕ → A → Type 0} {shape : Shape} {rules : ContentRules} → Format value Is shape rules
    → (e : Tlv) (r : Result X Fault) (view : X → A) → Answers view r (value e) → (x : A) → Is e.content x → IsOkAnd r (λ y. view y ≡ x)
is_read {X} {A} {value} format e r view answers x is = IsOkAnd-answers view r (value e) x (λ (y : A). y ≡ x) answers (format.again e x is) refl

-- the same for a value that is seen as all that it is
pub is_answer : {X A : Type 0} {value : Tlv → Result A Fault} {Is : List ℕ → A → Type 0} {shape : Shape} {rules : ContentRules} → Format value Is shape rules
    → (e : Tlv) (r : Result X Fault) (view : X → A) (whole : A → X) → ((y : X) → whole (view y) ≡ y) → Answers view r (value e) → (x : A) → Is e.content x → r ≡ Ok (whole x)
is_answer format e (Ok y) view whole same answers x is =
    ap (λ z. Ok z) (sym (same y) ∙ ap whole (ok_is {E = Fault} (view y) x (sym answers ∙ format.again e x is)))
is_answer format e (Err f) view whole same answers x is = let no = sym answers ∙ format.again e x is in absurd (by_err no)
  where
    by_err : {B : Type 0} {y : B} → (let r : Result B Fault = Err f in r ≡ Ok y) → ⊥
    by_err h = cc

refused : {X A : Type 0} (r : Result X Fault) (view : X → A) (reading : Result A Fault) → Answers view r reading → option_map about (refusal r) ≡ refusal (der reading)
refused {X} {A} (Ok x) view reading answers = ap (λ (q : Result A Fault). refusal (der q)) (sym answers)
refused {X} {A} (Err f) view reading answers = ap (λ (q : Result A Fault). refusal (der q)) (sym answers)

pub is_fault : {X A : Type 0} {value : Tlv → Result A Fault} {Is : List ℕ → A → Type 0} {shape : Shape} {rules : ContentRules} → Format value Is shape rules
    → (e : Tlv) (r : Result X Fault) (view : X → A) → Answers view r (value e) → option_map about (refusal r) ≡ inner_fault shape rules e
is_fault {X} {A} {value} {Is} {shape} {rules} format e r view answers =
    refused r view (value e) answers ∙ refusal-judged (der (value e)) (inner_fault shape rules e) (λ x. Unit {0}) (format.judged e)

-- a field of this tag that is read so
pub value_of : {A : Type 0} {value : Tlv → Result A Fault} {Is : List ℕ → A → Type 0} {shape : Shape} {rules : ContentRules} → Format value Is shape rules → (tag : ℕ) → Value tag value Is
value_of format tag = record { found = λ e x fits w read. format.found e x fits read; again = λ e x w is. format.again e x is }

-- ---- values of octets

-- by rules of DER
pub by_der_rules : {A : Type 0} (rules : List Rule) (value : List ℕ → A) (Is : List ℕ → A → Type 0)
    → ((c : List ℕ) → AreOctets c → first_broken rules c ≡ None → Is c (value c))
    → ((c : List ℕ) (x : A) → Is c x → (first_broken rules c ≡ None) × (value c ≡ x))
    → Format (value_at rules value) Is plain (der_rules rules)
by_der_rules {A} rules value Is found again =
    record {
      found = λ e x fits read. kept e (first_broken rules e.content) x refl fits read;
      again = λ e x is. let p = again e.content x is in rw (p.0, p.1) refl;
      judged = λ e. weaker _ _ _ _ (λ x p. tt) (value-judged rules value e);
    }
  where
    kept : (e : Tlv) (o : Option DerFault) (x : A) → first_broken rules e.content ≡ o → AreOctets e.content → at_element e.at (value_unless o (value e.content)) ≡ Ok x → Is e.content x
    kept e None x none fits read = subst (Is e.content) (ok_is {E = Fault} (value e.content) x read) (found e.content fits none)
    kept e (Some k) x some fits read = absurd cc

-- that octets may name, else one rule is broken
pub by_name : {A : Type 0} (kind : DerFault) (named : List ℕ → Option A) (Is : List ℕ → A → Type 0)
    → ((c : List ℕ) (x : A) → named c ≡ Some x → Is c x)
    → ((c : List ℕ) (x : A) → Is c x → named c ≡ Some x)
    → Format (λ e. at_element e.at (ok_or (named e.content) kind)) Is plain (one_rule (Der kind) (λ c. not (is_some (named c))))
by_name {A} kind named Is found again =
    record {
      found = λ e x fits read. kept e (named e.content) x refl read;
      again = λ e x is. rw (again e.content x is) refl;
      judged = λ e. judged e.at (named e.content);
    }
  where
    kept : (e : Tlv) (o : Option A) (x : A) → named e.content ≡ o → at_element e.at (ok_or o kind) ≡ Ok x → Is e.content x
    kept e (Some y) x some read = found e.content x (some ∙ ap (λ (z : A). Some z) (ok_is {E = Fault} y x read))
    kept e None x none read = absurd cc

    judged : (at : ℕ) (o : Option A) → Judged (der (at_element at (ok_or o kind))) (option_map (breaks at) (one_rule (Der kind) (λ c. not (is_some o)) [])) (λ x. Unit {0})
    judged at (Some y) = (refl, tt)
    judged at None = refl
