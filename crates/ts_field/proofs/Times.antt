-- Times, as they are read and encoded.
use Rattle.std.proofs.Common.{◌≡◌, ℕ, ◌+◌, Bool, true, false, cond, eqb, List, ◌++◌, length, Option, Some, None, Result, Ok, Err, refl, sym, ap, subst, ◌∙◌}
use Rattle.std.specs.Prelude.{ℤ, ok_or}
use Rattle.std.proofs.lemmas.Bool.{eqb-true}
use Rattle.ts_der.specs.declared.fault.DerFault.TheVariants.{TimeForm as TimeRule, WrongTag}
use Rattle.ts_der.specs.declared.fault.Fault.{Fault}
use Rattle.ts_der.specs.Octets.{AreOctets}
use Rattle.ts_der.specs.Answer.{◌>>=◌}
use Rattle.ts_der.specs.Element.{Place, Tlv, Fits, encode}
use Rattle.ts_der.specs.Reading.{fault_at, at_element, next_at}
use Rattle.ts_der.proofs.Elements.{next-found}
use Rattle.ts_der.proofs.Laws.{bind_ok, ok_is, next-only}
use Rattle.ts_time.specs.Text.{IsUtc, IsGeneral}
use Rattle.ts_time.specs.Reading.{utc_in, utc_value, generalized_time_in, general_value}
use Rattle.ts_time.proofs.ReadingLemmas.{utc_in-found, utc_in-only, general_in-found, general_in-only}
use Rattle.ts_shape.specs.Fields.{Within}
use Rattle.ts_shape.proofs.Parts.{Part}
use Rattle.ts_field.specs.declared.time.TimeForm.{TimeForm}
use Rattle.ts_field.specs.declared.time.TimeForm.TheVariants.{Utc, General}
use Rattle.ts_field.specs.declared.time.Time.{Time}
use Rattle.ts_field.specs.Time.{IsTimeIn, IsTime, time_of, time_at}

moment-ok : (o : Option ℤ) (at : ℕ) (m : ℤ) → at_element at (ok_or o TimeRule) ≡ Ok m → o ≡ Some m
moment-ok (Some n) at m e = ap (λ (z : ℤ). Some z) (ok_is {E = Fault} n m e)
moment-ok None at m e = absurd cc

-- the content of an element of this tag
at_tag : {A : Type 0} (tag : ℕ) (Encodes : List ℕ → A → Type 0) (e : Tlv) (x : A) → e.tag ≡ tag
    → Fits e.tag e.content → e.whole ≡ encode e.tag e.content → Encodes e.content x
    → Within tag Encodes e.whole x
at_tag tag Encodes e x t fits encoded is =
    record { content = e.content; fits = subst (λ (u : ℕ). Fits u e.content) t fits; encoded = encoded ∙ ap (λ (u : ℕ). encode u e.content) t; value = is }

abbrev time_by : Bool → Bool → Tlv → Result Time Fault
time_by utc general e =
    cond utc (at_element e.at (utc_value e.content) >>= λ m. Ok (record { form = Utc; moment = m }))
    (cond general (at_element e.at (general_value e.content) >>= λ m. Ok (record { form = General; moment = m })) (Err (fault_at e.at WrongTag)))

pub time_of-found : (e : Tlv) (t : Time) → Fits e.tag e.content → e.whole ≡ encode e.tag e.content → time_of e ≡ Ok t → IsTime e.whole t
unfolding time_of
time_of-found e t fits encoded read = by_tag (eqb e.tag 0x17) (eqb e.tag 0x18) refl refl read
  where
    by_tag : (b c : Bool) → eqb e.tag 0x17 ≡ b → eqb e.tag 0x18 ≡ c → time_by b c e ≡ Ok t → IsTime e.whole t
    by_tag true c u g r =
        let m = bind_ok (at_element e.at (utc_value e.content)) (λ m. Ok (record { form = Utc; moment = m })) t r in
        let value = utc_in-found e.content m.0 (moment-ok (utc_in e.content) e.at m.0 m.1) in
        subst (λ (x : Time). IsTime e.whole x) (ok_is {A = Time} {E = Fault} (record { form = Utc; moment = m.0 }) t m.2) (at_tag 0x17 IsUtc e m.0 (eqb-true e.tag 0x17 u) fits encoded value)
    by_tag false true u g r =
        let m = bind_ok (at_element e.at (general_value e.content)) (λ m. Ok (record { form = General; moment = m })) t r in
        let value = general_in-found e.content m.0 (moment-ok (generalized_time_in e.content) e.at m.0 m.1) in
        subst (λ (x : Time). IsTime e.whole x) (ok_is {A = Time} {E = Fault} (record { form = General; moment = m.0 }) t m.2) (at_tag 0x18 IsGeneral e m.0 (eqb-true e.tag 0x18 g) fits encoded value)
    by_tag false false u g r = absurd cc

time-found : (here : Place) (t : Time) (after : Place) → AreOctets here.rest → time_at here ≡ Ok (t, after) → (w : List ℕ) × IsTime w t × (here.rest ≡ w ++ after.rest)
unfolding time_at
time-found here t after fits read =
    let b = bind_ok (next_at here) (λ e. time_of e.0 >>= λ time. Ok (time, e.1)) (t, after) read in
    let y = bind_ok (time_of b.0.0) (λ time. Ok (time, b.0.1)) (t, after) b.2 in
    let s = next-found here b.0.0 b.0.1 fits b.1 in
    let is = time_of-found b.0.0 y.0 s.fits s.encoded y.1 in
    subst (λ (p : Time × Place). (w : List ℕ) × IsTime w p.0 × (here.rest ≡ w ++ p.1.rest)) (ok_is {A = Time × Place} {E = Fault} (y.0, b.0.1) (t, after) y.2) (b.0.0.whole, is, s.whole)

again_in : (f : TimeForm) (m : ℤ) (here : Place) (w rest : List ℕ) → IsTimeIn f w m → here.rest ≡ w ++ rest
    → time_at here ≡ Ok (record { form = f; moment = m }, record { rest = rest; at = here.at + length w })
unfolding time_at time_of
again_in Utc m here w rest is e =
    let one = next-only here 0x17 is.content rest is.fits (e ∙ ap (λ (o : List ℕ). o ++ rest) is.encoded) in
    rw (one, utc_in-only is.content m is.value) (ap (λ (o : List ℕ). Ok (record { form = Utc; moment = m }, record { rest = rest; at = here.at + length o })) (sym is.encoded))
again_in General m here w rest is e =
    let one = next-only here 0x18 is.content rest is.fits (e ∙ ap (λ (o : List ℕ). o ++ rest) is.encoded) in
    rw (one, general_in-only is.content m is.value) (ap (λ (o : List ℕ). Ok (record { form = General; moment = m }, record { rest = rest; at = here.at + length o })) (sym is.encoded))

pub time-part : Part time_at IsTime
time-part = record { found = time-found; again = λ here t w rest is e. again_in t.form t.moment here w rest is e }
