-- A time that may be absent: what is read is encoded so, what is encoded so is read, and the first rule that is broken.
use Rattle.std.proofs.Common.{◌≡◌, ℕ, ◌+◌, Bool, true, false, cond, not, ◌||◌, eqb, List, [], ◌∷◌, ◌++◌, length, Option, Some, None, Result, Ok, Err, refl, sym, ap, subst, ◌∙◌, arith}
use Rattle.ts_der.specs.declared.fault.DerFault.{DerFault}
use Rattle.ts_der.specs.declared.fault.DerFault.TheVariants.{WrongTag}
use Rattle.ts_der.specs.declared.fault.Fault.{Fault}
use Rattle.ts_der.specs.Octets.{AreOctets}
use Rattle.ts_der.specs.Answer.{◌>>=◌}
use Rattle.ts_der.specs.Rules.{first_broken}
use Rattle.ts_der.specs.Element.{Place, Tlv}
use Rattle.ts_der.specs.Header.{header_rules, tag_of}
use Rattle.ts_der.specs.Reading.{unless, fault_at, begins_with, element_of, behind, next_at, element_at}
use Rattle.ts_der.proofs.Laws.{bind_ok, ok_is}
use Rattle.ts_shape.specs.declared.fault.CertFault.{CertFault}
use Rattle.ts_shape.specs.Fault.{der}
use Rattle.ts_shape.specs.Fields.{optional_of}
use Rattle.ts_shape.specs.Shape.{optional, Shape, ◌then◌, ◌or_else◌, header_fault, row_fault, judge}
use Rattle.ts_shape.proofs.Judging.{Judged, bind}
use Rattle.ts_shape.proofs.OptionalParts.{begins-within, begins-other}
use Rattle.ts_shape.proofs.Parts.{took}
use Rattle.ts_field.specs.declared.time.Time.{Time}
use Rattle.ts_field.specs.declared.time.TimeForm.{TimeForm}
use Rattle.ts_field.specs.declared.time.TimeForm.TheVariants.{Utc, General}
use Rattle.ts_field.specs.Time.{IsTimeIn, time_of, time_at}
use Rattle.ts_field.specs.Table.{time}
use Rattle.ts_field.proofs.Judging.{time-reads}
use Rattle.ts_field.proofs.Times.{time-part}
use Rattle.ts_crl.specs.Reading.{or_general, next_update_at}
use Rattle.ts_crl.specs.Encoding.{IsTimeIfAny}

-- a time that stands
abbrev some_time : Place → Result (Option Time × Place) Fault
some_time here = time_at here >>= λ t. Ok (Some t.0, t.1)

abbrev no_time : Place → Result (Option Time × Place) Fault
no_time here = Ok (None, here)

abbrev beside_some : Place → Time → Result (Option Time × Place) Fault
beside_some after t = Ok (Some t, after)

abbrev beside : Place → Time → Result (Time × Place) Fault
beside after t = Ok (t, after)

-- an element that begins with a tag has it
element-next : (tag : ℕ) (here : Place) → begins_with tag here.rest ≡ true → element_at tag here ≡ next_at here
unfolding element_at next_at element_of
element-next tag here e = by_header (first_broken header_rules here.rest)
  where
    same : (rest : List ℕ) → begins_with tag rest ≡ true → eqb (tag_of rest) tag ≡ true
    same [] e = absurd cc
    same (o ∷ rest) e = e

    by_header : (o : Option DerFault)
        → (unless {A = Tlv × Place} o here.at (element_of here, behind here) >>= λ x. cond
        {A = Result (Tlv × Place) Fault} (eqb x.0.tag tag) (Ok x) (Err (fault_at x.0.at WrongTag)))
        ≡ unless o here.at (element_of here, behind here)
    by_header None = rw (same here.rest e) refl
    by_header (Some kind) = refl

form-is : (tag : ℕ) (here : Place) → optional_of tag time_of here ≡ cond (begins_with tag here.rest) (some_time here) (no_time here)
unfolding optional_of time_at
form-is tag here = by_start (begins_with tag here.rest) refl
  where
    by_time : (after : Place) (r : Result Time Fault) → (r >>= λ t. beside_some after t) ≡ ((r >>= λ t. beside after t) >>= λ t. Ok (Some t.0, t.1))
    by_time after (Ok t) = refl
    by_time after (Err d) = refl

    by_next : (r : Result (Tlv × Place) Fault) → (r >>= λ e. time_of e.0 >>= λ t. beside_some e.1 t) ≡ ((r >>= λ e. time_of e.0 >>= λ t. beside e.1 t) >>= λ t. Ok (Some t.0, t.1))
    by_next (Ok e) = by_time e.1 (time_of e.0)
    by_next (Err d) = refl

    by_start : (b : Bool) → begins_with tag here.rest ≡ b → cond b (element_at tag here >>= λ e. time_of e.0 >>= λ t. beside_some e.1 t) (no_time here) ≡ cond b (some_time here) (no_time here)
    by_start true e = ap (λ (r : Result (Tlv × Place) Fault). r >>= λ x. time_of x.0 >>= λ t. beside_some x.1 t) (element-next tag here e) ∙ by_next (next_at here)
    by_start false e = refl

-- a time of either form, where one is
update-is : (here : Place) → next_update_at here ≡ cond (begins_with 0x17 here.rest) (some_time here) (cond (begins_with 0x18 here.rest) (some_time here) (no_time here))
unfolding next_update_at
update-is here = ap (λ (r : Result (Option Time × Place) Fault). r >>= λ t. or_general t) (form-is 0x17 here) ∙ by_start (begins_with 0x17 here.rest)
  where
    by_time : (r : Result (Time × Place) Fault) → ((r >>= λ t. beside_some t.1 t.0) >>= λ t. or_general t) ≡ (r >>= λ t. beside_some t.1 t.0)
    by_time (Ok t) = refl
    by_time (Err d) = refl

    by_start : (b : Bool) → (cond b (some_time here) (no_time here) >>= λ t. or_general t) ≡ cond b (some_time here) (cond (begins_with 0x18 here.rest) (some_time here) (no_time here))
    by_start true = by_time (time_at here)
    by_start false = form-is 0x18 here

pub update-found : (here : Place) (x : Option Time) (after : Place) → AreOctets here.rest
    → next_update_at here ≡ Ok (x, after) → (w : List ℕ) × IsTimeIfAny w x
    × (here.rest ≡ w ++ after.rest) × AreOctets after.rest
update-found here x after fits read = by_start (begins_with 0x17 here.rest) (begins_with 0x18 here.rest) (sym (update-is here) ∙ read)
  where
    Is : Option Time × Place → Type 0
    Is p = (w : List ℕ) × IsTimeIfAny w p.0 × (here.rest ≡ w ++ p.1.rest) × AreOctets p.1.rest

    stands : some_time here ≡ Ok (x, after) → Is (x, after)
    stands e =
        let t = bind_ok (time_at here) (λ t. Ok (Some t.0, t.1)) (x, after) e in
        let f = took time-part here t.0.0 t.0.1 fits t.1 in
        subst Is (ok_is {A = Option Time × Place} {E = Fault} (Some t.0.0, t.0.1) (x, after) t.2) (f.0, f.1, f.2, f.3)

    by_start : (a b : Bool) → cond a (some_time here) (cond b (some_time here) (no_time here)) ≡ Ok (x, after) → Is (x, after)
    by_start true b e = stands e
    by_start false true e = stands e
    by_start false false e = subst Is (ok_is {A = Option Time × Place} {E = Fault} (None, here) (x, after) e) ([], refl, refl, fits)

no_more : (n : ℕ) → n ≡ n + 0
no_more n = omega arith

pub update-again : (here : Place) (x : Option Time) (w rest : List ℕ) → IsTimeIfAny w x → begins_with 0x17 rest ≡ false → begins_with 0x18 rest ≡ false → here.rest ≡ w ++ rest
    → next_update_at here ≡ Ok (x, record { rest = rest; at = here.at + length w })
update-again here None w rest is utc general e =
    let whole : here.rest ≡ rest = e ∙ ap (λ (o : List ℕ). o ++ rest) is in
    let a : begins_with 0x17 here.rest ≡ false = ap (begins_with 0x17) whole ∙ utc in
    let b : begins_with 0x18 here.rest ≡ false = ap (begins_with 0x18) whole ∙ general in
    update-is here ∙ rw (a, b) (there here.at here.rest w whole is)
  where
    there : (at : ℕ) (octets w : List ℕ) → octets ≡ rest → w ≡ [] → no_time (record { rest = octets; at = at }) ≡ Ok (None, record { rest = rest; at = at + length w })
    there at octets w same none = rw (same, none) (ap (λ (n : ℕ). Ok (None, record { rest = rest; at = n })) (no_more at))
update-again here (Some t) w rest is utc general e =
    let read = time-part.again here t w rest is e in
    let some : some_time here ≡ Ok (Some t, record { rest = rest; at = here.at + length w }) = rw read refl in
    update-is here ∙ (by_form t.form is (begins_with 0x17 here.rest) (begins_with 0x18 here.rest) refl refl ∙ some)
  where
    by_form : (f : TimeForm) → IsTimeIn f w t.moment → (a b : Bool) → begins_with 0x17 here.rest ≡ a
        → begins_with 0x18 here.rest ≡ b
        → cond a (some_time here) (cond b (some_time here) (no_time here)) ≡ some_time here
    by_form f is true b p q = refl
    by_form f is false true p q = refl
    by_form Utc is false false p q = absurd (let yes : begins_with 0x17 here.rest ≡ true = ap (begins_with 0x17) e ∙ begins-within is rest in let no = sym yes ∙ p in cc)
    by_form General is false false p q = absurd (let yes : begins_with 0x18 here.rest ≡ true = ap (begins_with 0x18) e ∙ begins-within is rest in let no = sym yes ∙ q in cc)

-- a field that a time may precede does not begin with another tag
pub begins-if-time : (w : List ℕ) (x : Option Time) → IsTimeIfAny w x → (rest : List ℕ) → begins_with 0x30 rest ≡ false → begins_with 0x30 (w ++ rest) ≡ false
begins-if-time w None is rest absent = subst (λ (o : List ℕ). begins_with 0x30 (o ++ rest) ≡ false) (sym is) absent
begins-if-time w (Some t) is rest absent = by_form t.form is
  where
    by_form : (f : TimeForm) → IsTimeIn f w t.moment → begins_with 0x30 (w ++ rest) ≡ false
    by_form Utc is = begins-other is 0x30 refl rest
    by_form General is = begins-other is 0x30 refl rest

pub update-judged : {B : Type 0} (others : Shape) (here : Place) (f : Option Time × Place → Result B CertFault) (Q : B → Type 0)
    → ((x : Option Time) (after : Place) → Judged (f (x, after)) (judge others after) Q)
    → Judged (der (next_update_at here) >>= f) (judge (optional time then others) here) Q
update-judged {B} others here f Q k =
    subst (λ (r : Result (Option Time × Place) Fault). Judged (der r >>= f)
    (judge (optional time then others) here) Q) (sym (update-is here))
    (by_start (begins_with 0x17 here.rest) (begins_with 0x18 here.rest))
  where
    flat : (r : Result (Time × Place) Fault) → (der (r >>= λ t. beside_some t.1 t.0) >>= f) ≡ (der r >>= λ t. f (Some t.0, t.1))
    flat (Ok t) = refl
    flat (Err d) = refl

    they : Option CertFault
    they = header_fault here or_else row_fault (optional time) (element_of here) or_else judge others (behind here)

    stands : Judged (der (some_time here) >>= f) they Q
    stands =
        subst (λ (r : Result B CertFault). Judged r they Q) (sym (flat (time_at here)))
        (bind (der (time_at here)) (λ t. f (Some t.0, t.1)) (header_fault here or_else row_fault time (element_of here)) (judge others (behind here)) _ Q (time-reads here)
        (λ t p. subst (λ (after : Place). Judged (f (Some t.0, after)) (judge others (behind here)) Q) (sym p.1) (k (Some t.0) (behind here))))

    by_start : (a b : Bool) → Judged (der (cond a (some_time here) (cond b (some_time here) (no_time here))) >>= f) (cond (not (a || (b || false))) (judge others here) they) Q
    by_start true b = stands
    by_start false true = stands
    by_start false false = k None here
