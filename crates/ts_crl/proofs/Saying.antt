-- Reading with offsets and then dropping them is reading without them.
use Rattle.std.proofs.Common.{◌≡◌, ℕ, zero, suc, Bool, true, false, cond, List, [], ◌∷◌, length, Option, Some, None, Result, Ok, Err, refl, ap, ◌∙◌}
use Rattle.std.specs.Prelude.{map, option_map}
use Rattle.ts_der.specs.declared.fault.Fault.{Fault}
use Rattle.ts_der.specs.Answer.{◌>>=◌}
use Rattle.ts_der.specs.Element.{Place, Tlv, inside}
use Rattle.ts_der.specs.Reading.{begins_with, is_end, next_at, element_at, value_at, end_at, many_from, many}
use Rattle.ts_der.proofs.Laws.{ok_is}
use Rattle.ts_shape.specs.Items.{some_rules, each, alone, tagged_as, of_tag, some_of}
use Rattle.ts_shape.specs.Fields.{optional_of}

-- what is read, and then what it says
abbrev pub say : {A B : Type 0} → (A → B) → Result A Fault → Result B Fault
say f r = r >>= λ x. Ok (f x)

-- the same, and the place after it
abbrev pub say_at : {A B : Type 0} → (A → B) → Result (A × Place) Fault → Result (B × Place) Fault
say_at f r = r >>= λ x. Ok (f x.0, x.1)

-- a value, and the place after it
abbrev beside : {A : Type 0} → Place → A → Result (A × Place) Fault
beside after x = Ok (x, after)

abbrev beside_some : {A : Type 0} → Place → A → Result (Option A × Place) Fault
beside_some after x = Ok (Some x, after)

-- one reading gives what another one says
abbrev pub Says : {A B : Type 0} → (A → B) → (Tlv → Result A Fault) → (Tlv → Result B Fault) → Type 0
Says f value other = (e : Tlv) → other e ≡ say f (value e)

-- the value without its offsets was read
pub unsaid : {A B : Type 0} (f : A → B) (r : Result A Fault) (y : B) → say f r ≡ Ok y → (x : A) × (r ≡ Ok x) × (f x ≡ y)
unsaid {A} {B} f (Ok x) y e = (x, refl, ok_is {E = Fault} (f x) y e)
unsaid {A} {B} f (Err d) y e = absurd cc

pub unsaid_at : {A B : Type 0} (f : A → B) (r : Result (A × Place) Fault) (y : B) (after : Place) → say_at f r ≡ Ok (y, after) → (x : A) × (r ≡ Ok (x, after)) × (f x ≡ y)
unsaid_at {A} {B} f (Ok x) y after e =
    let same : (f x.0, x.1) ≡ (y, after) = ok_is {A = B × Place} {E = Fault} (f x.0, x.1) (y, after) e in
    (x.0, ap (λ (p : B × Place). Ok (x.0, p.1)) same, ap (λ (p : B × Place). p.0) same)
unsaid_at {A} {B} f (Err d) y after e = absurd cc

-- of an element of one tag
pub tagged-say : {A B : Type 0} (tag : ℕ) (f : A → B) (value : Tlv → Result A Fault) (other : Tlv → Result B Fault) → Says f value other → Says f (of_tag tag value) (of_tag tag other)
unfolding of_tag
tagged-say {A} {B} tag f value other h e = by_tag (tagged_as tag e)
  where
    by_tag : (r : Result Tlv Fault) → (r >>= other) ≡ ((r >>= value) >>= λ x. Ok (f x))
    by_tag (Ok t) = h t
    by_tag (Err d) = refl

-- of the element that is next
pub each-say : {A B : Type 0} (f : A → B) (value : Tlv → Result A Fault) (other : Tlv → Result B Fault) → Says f value other → (here : Place) → each other here ≡ say_at f (each value here)
unfolding each
each-say {A} {B} f value other h here = by_next (next_at here)
  where
    by_value : (after : Place) (r : Result A Fault) → (say f r >>= λ y. beside after y) ≡ say_at f (r >>= λ x. beside after x)
    by_value after (Ok x) = refl
    by_value after (Err d) = refl

    by_next : (r : Result (Tlv × Place) Fault) → (r >>= λ e. other e.0 >>= λ y. beside e.1 y) ≡ say_at f (r >>= λ e. value e.0 >>= λ x. beside e.1 x)
    by_next (Ok e) = ap (λ (r : Result B Fault). r >>= λ y. beside e.1 y) (h e.0) ∙ by_value e.1 (value e.0)
    by_next (Err d) = refl

-- of a field that may be absent
pub optional-say : {A B : Type 0} (tag : ℕ) (f : A → B) (value : Tlv → Result A Fault) (other : Tlv → Result B Fault) → Says f value other
    → (here : Place) → optional_of tag other here ≡ say_at (option_map f) (optional_of tag value here)
unfolding optional_of
optional-say {A} {B} tag f value other h here = by_start (begins_with tag here.rest)
  where
    by_value : (after : Place) (r : Result A Fault) → (say f r >>= λ y. beside_some after y) ≡ say_at (option_map f) (r >>= λ x. beside_some after x)
    by_value after (Ok x) = refl
    by_value after (Err d) = refl

    by_element : (r : Result (Tlv × Place) Fault) → (r >>= λ e. other e.0 >>= λ y. beside_some e.1 y) ≡ say_at (option_map f) (r >>= λ e. value e.0 >>= λ x. beside_some e.1 x)
    by_element (Ok e) = ap (λ (r : Result B Fault). r >>= λ y. beside_some e.1 y) (h e.0) ∙ by_value e.1 (value e.0)
    by_element (Err d) = refl

    by_start : (b : Bool) → cond {A = Result (Option B × Place) Fault} b (element_at tag here >>= λ e. other e.0 >>= λ y. beside_some e.1 y) (Ok (None, here))
        ≡ say_at (option_map f) (cond {A = Result (Option A × Place) Fault} b (element_at tag here >>= λ e. value e.0 >>= λ x. beside_some e.1 x) (Ok (None, here)))
    by_start true = by_element (element_at tag here)
    by_start false = refl

-- of the one element within another
pub alone-say : {A B : Type 0} (f : A → B) (value : Tlv → Result A Fault) (other : Tlv → Result B Fault) → Says f value other → Says f (alone value) (alone other)
unfolding alone
alone-say {A} {B} f value other h e =
    ap (λ (r : Result (B × Place) Fault). r >>= λ x. end_at x.1 >>= λ done. Ok x.0) (each-say f value other h (inside e)) ∙ by_item (each value (inside e))
  where
    by_end : (x : A) (r : Result (Unit {0}) Fault) → (r >>= λ done. Ok (f x)) ≡ ((r >>= λ done. Ok x) >>= λ y. Ok (f y))
    by_end x (Ok done) = refl
    by_end x (Err d) = refl

    by_item : (r : Result (A × Place) Fault) → (say_at f r >>= λ x. end_at x.1 >>= λ done. Ok x.0) ≡ ((r >>= λ x. end_at x.1 >>= λ done. Ok x.0) >>= λ y. Ok (f y))
    by_item (Ok x) = by_end x.0 (end_at x.1)
    by_item (Err d) = refl

-- of items up to the end
many_from-say : {A B : Type 0} (f : A → B) (value : Tlv → Result A Fault) (other : Tlv → Result B Fault) → Says f value other
    → (n : ℕ) (here : Place) → many_from n (each other) here ≡ say (map f) (many_from n (each value) here)
many_from-say f value other h zero here = refl
many_from-say {A} {B} f value other h (suc n) here = by_end (λ after. many_from-say f value other h n after) (is_end here.rest)
  where
    they : Type 0
    they = (after : Place) → many_from n (each other) after ≡ (many_from n (each value) after >>= λ xs. Ok (map f xs))

    others : A × Place → Result (List A) Fault
    others x = many_from n (each value) x.1 >>= λ ys. Ok (x.0 ∷ ys)

    their : B × Place → Result (List B) Fault
    their x = many_from n (each other) x.1 >>= λ ys. Ok (x.0 ∷ ys)

    by_others : (x : A) (r : Result (List A) Fault) → ((r >>= λ ys. Ok (map f ys)) >>= λ ys. Ok (f x ∷ ys)) ≡ ((r >>= λ ys. Ok (x ∷ ys)) >>= λ ys. Ok (map f ys))
    by_others x (Ok ys) = refl
    by_others x (Err d) = refl

    by_item : they → (r : Result (A × Place) Fault) → (say_at f r >>= their) ≡ ((r >>= others) >>= λ xs. Ok (map f xs))
    by_item more (Ok x) = ap (λ (r : Result (List B) Fault). r >>= λ ys. Ok (f x.0 ∷ ys)) (more x.1) ∙ by_others x.0 (many_from n (each value) x.1)
    by_item more (Err d) = refl

    by_end : they → (b : Bool) → cond b (Ok []) (each other here >>= their) ≡ (cond b (Ok []) (each value here >>= others) >>= λ xs. Ok (map f xs))
    by_end more true = refl
    by_end more false = ap (λ (r : Result (B × Place) Fault). r >>= their) (each-say f value other h here) ∙ by_item more (each value here)

pub many-say : {A B : Type 0} (f : A → B) (value : Tlv → Result A Fault) (other : Tlv → Result B Fault) → Says f value other
    → (here : Place) → many (each other) here ≡ say (map f) (many (each value) here)
unfolding many
many-say f value other h here = many_from-say f value other h (length here.rest) here

-- and of one or more
pub some-say : {A B : Type 0} (f : A → B) (value : Tlv → Result A Fault) (other : Tlv → Result B Fault) → Says f value other → Says (map f) (some_of value) (some_of other)
unfolding some_of
some-say {A} {B} f value other h e =
    ap (λ (r : Result (List B) Fault). r >>= λ xs. value_at some_rules (λ c. c) e >>= λ some. Ok xs) (many-say f value other h (inside e)) ∙ by_all (many (each value) (inside e))
  where
    by_some : (xs : List A) (r : Result (List ℕ) Fault) → (r >>= λ some. Ok (map f xs)) ≡ ((r >>= λ some. Ok xs) >>= λ ys. Ok (map f ys))
    by_some xs (Ok c) = refl
    by_some xs (Err d) = refl

    by_all : (r : Result (List A) Fault)
        → ((r >>= λ xs. Ok (map f xs)) >>= λ xs. value_at some_rules (λ c. c) e >>= λ some. Ok xs)
        ≡ ((r >>= λ xs. value_at some_rules (λ c. c) e >>= λ some. Ok xs) >>= λ xs. Ok (map f xs))
    by_all (Ok xs) = by_some xs (value_at some_rules (λ c. c) e)
    by_all (Err d) = refl
