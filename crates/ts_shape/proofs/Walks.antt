-- Items one after another, each within an element.
use Rattle.std.proofs.Common.{◌≡◌, ℕ, ◌<◌, ◌≤◌, Bool, true, false, List, [], ◌∷◌, length, Some, None, Result, Ok, Err, refl, sym, ap, subst, ◌∙◌, arith}
use Rattle.std.specs.Prelude.{is_ok, IfOk, IsOkAnd}
use Rattle.std.specs.Result.{result_unwrap_or}
use Rattle.ts_der.specs.declared.fault.Fault.{Fault}
use Rattle.ts_der.specs.Answer.{◌>>=◌, refusal, Answers}
use Rattle.ts_der.specs.Element.{Place, Tlv}
use Rattle.ts_der.specs.Reading.{is_end, element_at, many}
use Rattle.ts_der.proofs.Laws.{bind_ok, ok_is, err_not_ok, element-next}
use Rattle.ts_der.proofs.Many.{Consumes, prepend, many-step, many-end}
use Rattle.ts_der.proofs.Sets.{next-consumes}
use Rattle.ts_shape.specs.Steps.{Passes}
use Rattle.ts_shape.specs.Fields.{within}

pub within-consumes : {A : Type 0} (tag : ℕ) (value : Tlv → Result A Fault) → Consumes (within tag value)
unfolding within
within-consumes {A} tag value here x after read =
    let e = bind_ok (element_at tag here) (λ e. value e.0 >>= λ y. Ok (y, e.1)) (x, after) read in
    let v = bind_ok (value e.0.0) (λ y. Ok (y, e.0.1)) (x, after) e.2 in
    let same : (v.0, e.0.1) ≡ (x, after) = ok_is {A = A × Place} {E = Fault} (v.0, e.0.1) (x, after) v.2 in
    let n = element-next tag here e.0.0 e.0.1 e.1 in
    subst (λ (p : Place). length p.rest < length here.rest) (ap (λ (p : A × Place). p.1) same) (next-consumes here e.0.0 e.0.1 n.0)

some : {A : Type 0} (r : Result A Fault) → None ≡ refusal r → (x : A) × (r ≡ Ok x)
some (Ok x) e = (x, refl)
some (Err f) e = absurd cc

same_fault : {A : Type 0} (r : Result A Fault) (f : Fault) → Some f ≡ refusal r → r ≡ Err f
same_fault (Ok x) f e = absurd cc
same_fault (Err g) f e = cc

-- what is within an element was looked at
pub passes : {A : Type 0} (tag : ℕ) (value : Tlv → Result A Fault) (here : Place) (e : Tlv) (after : Place) (r : Result (Unit {0}) Fault)
    → element_at tag here ≡ Ok (e, after) → refusal r ≡ refusal (value e) → Passes after r (within tag value here)
unfolding within
passes {A} tag value here e after (Ok done) read same =
    let x = some (value e) same in
    (x.0, rw read (ap (λ (r : Result A Fault). r >>= λ y. Ok (y, after)) x.1))
passes {A} tag value here e after (Err f) read same = rw read (ap (λ (r : Result A Fault). r >>= λ y. Ok (y, after)) (same_fault (value e) f same))

-- reading that was not refused
pub not_refused : {A : Type 0} (r : Result A Fault) → None ≡ refusal r → is_ok r ≡ true
not_refused (Ok x) e = refl
not_refused (Err f) e = absurd cc

pub not_refused_is : {A : Type 0} (r : Result A Fault) (d : A) → None ≡ refusal r → r ≡ Ok (result_unwrap_or r d)
not_refused_is (Ok x) d e = refl
not_refused_is (Err f) d e = absurd cc

pub refused_is : {A : Type 0} (r : Result A Fault) (f : Fault) → Some f ≡ refusal r → r ≡ Err f
refused_is r f e = same_fault r f e

pub fails : {A : Type 0} (tag : ℕ) (value : Tlv → Result A Fault) (here : Place) (f : Fault) → element_at tag here ≡ Err f → within tag value here ≡ Err f
unfolding within
fails tag value here f read = rw read refl

-- a call that is seen by view
pub IfOk-answers : {X Y E : Type 0} (view : X → Y) (r : Result X E) (reading : Result Y E) (P : Y → Type 0) → Answers view r reading → ((y : Y) → reading ≡ Ok y → P y) → IfOk r (λ x. P (view x))
IfOk-answers view (Ok x) reading P g f = f (view x) g
IfOk-answers view (Err e) reading P g f = tt

pub IsOkAnd-answers : {X Y E : Type 0} (view : X → Y) (r : Result X E) (reading : Result Y E) (y : Y) (P : Y → Type 0) → Answers view r reading → reading ≡ Ok y → P y → IsOkAnd r (λ x. P (view x))
IsOkAnd-answers {X} {Y} {E} view (Ok x) reading y P g e p = subst P (ok_is {E = E} y (view x) (sym e ∙ g)) p
IsOkAnd-answers {X} {Y} {E} view (Err f) reading y P g e p = absurd (err_not_ok {E = E} (sym g ∙ e))

-- ---- a list that was read, item by item

pub record FirstItem {A : Type 0} (tag : ℕ) (value : Tlv → Result A Fault) (here : Place) : Type 0 where
  pub element : Tlv
  pub after : Place
  pub item : A
  pub others : List A
  pub stands : element_at tag here ≡ Ok (element, after)
  pub read : value element ≡ Ok item
  pub rest : many (within tag value) after ≡ Ok others
  pub whole : many (within tag value) here ≡ Ok (item ∷ others)

some_ok : {A : Type 0} (r : Result A Fault) → is_ok r ≡ true → (x : A) × (r ≡ Ok x)
some_ok (Ok x) e = (x, refl)
some_ok (Err f) e = absurd cc

pub first_item : {A : Type 0} (tag : ℕ) (value : Tlv → Result A Fault) (here : Place) → is_ok (many (within tag value) here) ≡ true → is_end here.rest ≡ false → FirstItem tag value here
unfolding within
first_item {A} tag value here ok more =
    let s = some_ok (many (within tag value) here) ok in
    let step = many-step (within tag value) (within-consumes tag value) here more in
    let w = bind_ok (within tag value here) (λ x. prepend x.0 (many (within tag value) x.1)) s.0 (sym step ∙ s.1) in
    let m = bind_ok (many (within tag value) w.0.1) (λ xs. Ok (w.0.0 ∷ xs)) s.0 w.2 in
    let e = bind_ok (element_at tag here) (λ e. value e.0 >>= λ y. Ok (y, e.1)) w.0 w.1 in
    let v = bind_ok (value e.0.0) (λ y. Ok (y, e.0.1)) w.0 e.2 in
    let same : (v.0, e.0.1) ≡ w.0 = ok_is {A = A × Place} {E = Fault} (v.0, e.0.1) w.0 v.2 in
    let behind : e.0.1 ≡ w.0.1 = ap (λ (p : A × Place). p.1) same in
    record {
      element = e.0.0;
      after = e.0.1;
      item = v.0;
      others = m.0;
      stands = e.1;
      read = v.1;
      rest = ap (λ (p : Place). many (within tag value) p) behind ∙ m.1;
      whole = s.1 ∙ (sym m.2 ∙ ap (λ (x : A). Ok (x ∷ m.0)) (sym (ap (λ (p : A × Place). p.0) same)));
    }

-- ---- iterators over a list that was read

pub nothing_left : {A : Type 0} (tag : ℕ) (value : Tlv → Result A Fault) (here : Place) → is_end here.rest ≡ true → result_unwrap_or (many (within tag value) here) [] ≡ []
nothing_left {A} tag value here e = ap (λ (r : Result (List A) Fault). result_unwrap_or r []) (many-end (within tag value) here e)

-- the element that is at the front of such a list, what is read within it, and the rest of the list
pub record Front {A : Type 0} (tag : ℕ) (value : Tlv → Result A Fault) (here : Place) (e : Tlv) (after : Place) : Type 0 where
  pub item : A
  pub read : value e ≡ Ok item
  pub ok : is_ok (many (within tag value) after) ≡ true
  pub whole : result_unwrap_or (many (within tag value) here) [] ≡ item ∷ result_unwrap_or (many (within tag value) after) []

pub front_is : {A : Type 0} (tag : ℕ) (value : Tlv → Result A Fault) (here : Place) (e : Tlv) (after : Place) → is_ok (many (within tag value) here) ≡ true → is_end here.rest ≡ false
    → element_at tag here ≡ Ok (e, after) → Front tag value here e after
front_is {A} tag value here e after ok more stands =
    let f = first_item tag value here ok more in
    let same : (f.element, f.after) ≡ (e, after) = ok_is {A = Tlv × Place} {E = Fault} (f.element, f.after) (e, after) (sym f.stands ∙ stands) in
    let unwrap : Result (List A) Fault → List A = λ r. result_unwrap_or r [] in
    subst (λ (p : Tlv × Place). Front tag value here p.0 p.1) same (record {
      item = f.item;
      read = f.read;
      ok = ap is_ok f.rest;
      whole = ap unwrap f.whole ∙ ap (λ (xs : List A). f.item ∷ xs) (sym (ap unwrap f.rest));
    })

pub no_fault : {A : Type 0} (tag : ℕ) (value : Tlv → Result A Fault) (here : Place) (f : Fault) → is_ok (many (within tag value) here) ≡ true → is_end here.rest ≡ false
    → element_at tag here ≡ Err f → ⊥
no_fault {A} tag value here f ok more fails =
    let i = first_item tag value here ok more in
    err_not_ok {E = Fault} (sym fails ∙ i.stands)

-- a call that answers what was read
pub read_one : {X Y : Type 0} (view : X → Y) (r : Result X Fault) (reading : Result Y Fault) (y : Y) → Answers view r reading → reading ≡ Ok y → (x : X) × (r ≡ Ok x) × (view x ≡ y)
read_one view (Ok x) reading y answers read = (x, refl, ok_is {E = Fault} (view x) y (sym answers ∙ read))
read_one view (Err f) reading y answers read = absurd (err_not_ok {E = Fault} (sym answers ∙ read))

step_is : {A : Type 0} {tag : ℕ} {value : Tlv → Result A Fault} {here : Place} (f : FirstItem tag value here) → within tag value here ≡ Ok (f.item, f.after)
unfolding within
step_is f = rw (f.stands, f.read) refl

-- a list that was read has no more items than octets
pub many-short : {A : Type 0} (tag : ℕ) (value : Tlv → Result A Fault) (xs : List A) (here : Place) → many (within tag value) here ≡ Ok xs → length xs ≤ length here.rest
many-short tag value [] here read = omega arith
many-short {A} tag value (x ∷ xs) here read = by_end (many-short tag value xs) (is_end here.rest) refl
  where
    by_end : ((there : Place) → many (within tag value) there ≡ Ok xs → length xs ≤ length there.rest) → (b : Bool) → is_end here.rest ≡ b → length (x ∷ xs) ≤ length here.rest
    by_end more true e = let none : [] ≡ x ∷ xs = ok_is {A = List A} {E = Fault} [] (x ∷ xs) (sym (many-end (within tag value) here e) ∙ read) in absurd cc
    by_end more false e =
        let f = first_item tag value here (ap is_ok read) e in
        let same : f.item ∷ f.others ≡ x ∷ xs = ok_is {A = List A} {E = Fault} (f.item ∷ f.others) (x ∷ xs) (sym f.whole ∙ read) in
        let tail : f.others ≡ xs = cc in
        let rest = more f.after (f.rest ∙ ap (λ (ys : List A). Ok ys) tail) in
        let step = within-consumes tag value here f.item f.after (step_is f) in
        omega arith

-- what was read, without its Ok
pub ok_unwrapped : {A : Type 0} (r : Result A Fault) (d : A) → is_ok r ≡ true → r ≡ Ok (result_unwrap_or r d)
ok_unwrapped (Ok x) d e = refl
ok_unwrapped (Err f) d e = absurd cc
