-- A field that may be absent, read by its element: what calls that look for the element first answer.
use Rattle.std.proofs.Common.{◌≡◌, ℕ, Bool, true, false, cond, Option, Some, None, Result, Ok, Err, refl, ap, ◌∙◌}
use Rattle.ts_der.specs.declared.fault.Fault.{Fault}
use Rattle.ts_der.specs.Answer.{◌>>=◌}
use Rattle.ts_der.specs.Element.{Place, Tlv}
use Rattle.ts_der.specs.Reading.{begins_with, element_at, optional_at}
use Rattle.ts_shape.specs.Fields.{optional_of}

-- what is read of an element, where it is
abbrev read_if : {A : Type 0} → (Tlv → Result A Fault) → Option Tlv → Place → Result (Option A × Place) Fault
read_if value None after = Ok (None, after)
read_if value (Some e) after = value e >>= λ x. Ok (Some x, after)

optional-is : {A : Type 0} (tag : ℕ) (value : Tlv → Result A Fault) (here : Place) → optional_of tag value here ≡ (optional_at tag here >>= λ e. read_if value e.0 e.1)
unfolding optional_of optional_at
optional-is {A} tag value here = by_start (begins_with tag here.rest) (element_at tag here)
  where
    by_start : (b : Bool) (r : Result (Tlv × Place) Fault)
        → cond {A = Result (Option A × Place) Fault} b (r >>= λ e. value e.0 >>= λ x. Ok (Some x, e.1)) (Ok (None, here))
        ≡ (cond {A = Result (Option Tlv × Place) Fault} b (r >>= λ x. Ok (Some x.0, x.1)) (Ok (None, here)) >>= λ e. read_if value e.0 e.1)
    by_start true (Ok x) = refl
    by_start true (Err f) = refl
    by_start false r = refl

-- the element can't be read
pub optional_fails : {A : Type 0} (tag : ℕ) (value : Tlv → Result A Fault) (here : Place) (f : Fault) → optional_at tag here ≡ Err f → optional_of tag value here ≡ Err f
optional_fails tag value here f e = optional-is tag value here ∙ ap (λ (r : Result (Option Tlv × Place) Fault). r >>= λ x. read_if value x.0 x.1) e

-- the element is absent
pub optional_is_absent : {A : Type 0} (tag : ℕ) (value : Tlv → Result A Fault) (here after : Place) → optional_at tag here ≡ Ok (None, after) → optional_of tag value here ≡ Ok (None, after)
optional_is_absent tag value here after e = optional-is tag value here ∙ ap (λ (r : Result (Option Tlv × Place) Fault). r >>= λ x. read_if value x.0 x.1) e

-- the element stands, and what is in it is read
pub optional_reads : {A : Type 0} (tag : ℕ) (value : Tlv → Result A Fault) (here : Place) (x : Tlv) (after : Place) (y : A) → optional_at tag here ≡ Ok (Some x, after) → value x ≡ Ok y
    → optional_of tag value here ≡ Ok (Some y, after)
optional_reads {A} tag value here x after y e v =
    optional-is tag value here ∙ (ap (λ (r : Result (Option Tlv × Place) Fault). r >>= λ x. read_if value x.0 x.1) e ∙ ap (λ (r : Result A Fault). r >>= λ y. Ok (Some y, after)) v)

-- or is refused
pub optional_refuses : {A : Type 0} (tag : ℕ) (value : Tlv → Result A Fault) (here : Place) (x : Tlv) (after : Place) (f : Fault) → optional_at tag here ≡ Ok (Some x, after) → value x ≡ Err f
    → optional_of tag value here ≡ Err f
optional_refuses {A} tag value here x after f e v =
    optional-is tag value here ∙ (ap (λ (r : Result (Option Tlv × Place) Fault). r >>= λ x. read_if value x.0 x.1) e ∙ ap (λ (r : Result A Fault). r >>= λ y. Ok (Some y, after)) v)
