-- What reading an algorithm identifier or a time refuses is the first rule of its row that is broken.
use Rattle.std.proofs.Common.{◌≡◌, ℕ, Bool, true, false, not, cond, eqb, List, Option, Some, None, Result, Ok, Err, refl, sym, subst}
use Rattle.std.specs.Prelude.{option_map, is_some, ok_or, ℤ}
use Rattle.ts_der.specs.declared.fault.DerFault.TheVariants.{WrongTag, TimeForm}
use Rattle.ts_der.specs.declared.fault.Fault.{Fault}
use Rattle.ts_der.specs.Answer.{◌>>=◌}
use Rattle.ts_der.specs.Element.{Place, Tlv, inside}
use Rattle.ts_der.specs.Reading.{fault_at, is_end, element_of, behind, next_at, at_element}
use Rattle.ts_time.specs.Reading.{utc_in, generalized_time_in, utc_value, general_value}
use Rattle.ts_shape.specs.declared.fault.CertRule.TheVariants.{Der}
use Rattle.ts_shape.specs.declared.fault.CertFault.{CertFault}
use Rattle.ts_shape.specs.Fault.{der, breaks}
use Rattle.ts_shape.specs.Fields.{oid_at}
use Rattle.ts_shape.specs.Rows.{object_identifier}
use Rattle.ts_shape.specs.Shape.{any, optional, Shape, nothing, ◌then◌, ◌or_else◌, header_fault, row_fault, judge, no_rules, one_rule}
use Rattle.ts_shape.proofs.Judging.{Judged, no_more, next-judged, Reads, within-reads, then-judged, under, ends, Whatever, oid-reads, next-reads}
use Rattle.ts_field.specs.declared.time.Time.{Time}
use Rattle.ts_field.specs.declared.time.TimeForm.TheVariants.{Utc, General}
use Rattle.ts_field.specs.Algorithm.{parameters_at, algorithm_of, algorithm_at}
use Rattle.ts_field.specs.Time.{time_of, time_at}
use Rattle.ts_field.specs.Table.{algorithm_identifier, time}

-- ---- algorithm identifiers

parameters-judged : {B : Type 0} (others : Shape) (here : Place) (f : Option (List ℕ) × Place → Result B CertFault) (Q : B → Type 0)
    → ((x : Option (List ℕ)) (after : Place) → Judged (f (x, after)) (judge others after) Q)
    → Judged (der (parameters_at here) >>= f) (judge (optional any then others) here) Q
unfolding parameters_at
parameters-judged {B} others here f Q k = by_end (is_end here.rest)
  where
    regrouped : (r : Result (Tlv × Place) Fault) → (der (r >>= λ e. Ok (Some e.0.whole, e.1)) >>= f) ≡ (der r >>= λ x. Ok x.0.whole >>= λ v. f (Some v, x.1))
    regrouped (Ok x) = refl
    regrouped (Err d) = refl

    by_end : (b : Bool) → Judged (der (cond {A = Result (Option (List ℕ) × Place) Fault} b (Ok (None, here)) (next_at here >>= λ e. Ok (Some e.0.whole, e.1))) >>= f)
        (cond (not (not b)) (judge others here) (header_fault here or_else row_fault (optional any) (element_of here) or_else judge others (behind here))) Q
    by_end true = k None here
    by_end false =
        subst (λ r. Judged r (header_fault here or_else row_fault (optional any) (element_of here) or_else judge others (behind here)) Q) (sym (regrouped (next_at here)))
        (next-judged (optional any) here (λ e. Ok e.whole) (λ x v. f (Some v, x.1)) (judge others (behind here)) (λ v. Unit {0}) Q (refl, tt) (λ v h p. k (Some v) (behind here)))

pub algorithm-judged : (e : Tlv) → Judged (der (algorithm_of e)) (judge (object_identifier then optional any then nothing) (inside e) or_else None) (λ a. a.whole ≡ e.whole)
unfolding algorithm_of
algorithm-judged e =
    no_more _ _ _
    (under (oid_at (inside e)) _ _ _
    (then-judged object_identifier (optional any then nothing) (inside e) (λ here. der (oid_at here)) _ Whatever _ refl oid-reads (λ oid p.
    under (parameters_at (behind (inside e))) _ _ _
    (parameters-judged nothing (behind (inside e)) _ _ (λ parameters after. ends after _ _ (λ h. refl))))))

pub algorithm-reads : Reads algorithm_identifier (λ here. der (algorithm_at here)) (λ e a. a.whole ≡ e.whole)
unfolding algorithm_at
algorithm-reads = within-reads 0x30 (object_identifier then optional any then nothing) no_rules algorithm_of (λ e a. a.whole ≡ e.whole) algorithm-judged

-- ---- times

-- a moment, if octets name one
moment-judged : (at : ℕ) (o : Option ℤ) (form : ℤ → Time)
    → Judged (der (at_element at (ok_or o TimeForm) >>= λ m. Ok (form m))) (option_map (breaks at) (cond (not (is_some o)) (Some (Der TimeForm)) None)) (λ t. Unit {0})
moment-judged at None form = refl
moment-judged at (Some m) form = (refl, tt)

pub time-judged : (e : Tlv) → Judged (der (time_of e)) (row_fault time e) (λ t. Unit {0})
unfolding time_of
time-judged e = by_tag (eqb e.tag 0x17) (eqb e.tag 0x18)
  where
    by_tag : (b c : Bool)
        → Judged (der (cond b
        (at_element e.at (utc_value e.content) >>= λ m. Ok (record { form = Utc; moment = m }))
        (cond c (at_element e.at (general_value e.content) >>= λ m. Ok
        (record { form = General; moment = m })) (Err (fault_at e.at WrongTag)))))
        (cond b (option_map (breaks e.at) (one_rule (Der TimeForm) (λ c. not (is_some (utc_in c))) e.content))
        (cond c (option_map (breaks e.at) (one_rule (Der TimeForm) (λ c. not (is_some (generalized_time_in c))) e.content)) (Some (breaks e.at (Der WrongTag)))))
        (λ (t : Time). Unit {0})
    by_tag true c = moment-judged e.at (utc_in e.content) (λ m. record { form = Utc; moment = m })
    by_tag false true = moment-judged e.at (generalized_time_in e.content) (λ m. record { form = General; moment = m })
    by_tag false false = refl

pub time-reads : Reads time (λ here. der (time_at here)) Whatever
unfolding time_at
time-reads = next-reads time time_of Whatever time-judged
