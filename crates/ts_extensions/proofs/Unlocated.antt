-- What extensions say, wherever they stand.
use Rattle.std.proofs.Common.{◌≡◌, ℕ, zero, suc, Bool, true, false, cond, List, [], ◌∷◌, length, Option, Some, None, Result, Ok, Err, refl, ap, ◌∙◌}
use Rattle.std.specs.Prelude.{map, option_map}
use Rattle.ts_der.specs.declared.fault.Fault.{Fault}
use Rattle.ts_der.specs.Answer.{◌>>=◌, Answers}
use Rattle.ts_der.specs.Element.{Place, Tlv, inside}
use Rattle.ts_der.specs.Reading.{begins_with, next_at, element_at, value_at, end_at, is_end, many, many_from}
use Rattle.ts_shape.specs.Fields.{optional_of}
use Rattle.ts_shape.specs.Items.{each, alone, tagged_as, of_tag, some_of, some_rules}
use Rattle.ts_extensions.specs.Extension.{Extension, Located, unlocated, located_of, located_in, extension_of, extensions_of, explicit_extensions_of, all_located_of, explicit_all_located_of}
use Rattle.ts_extensions.specs.ExtensionView.{all_located_in, extensions_in}
use Rattle.ts_extensions.specs.declared.extensions.Extensions.{Extensions}

-- ---- a reading that is another one's, seen otherwise

-- the other reads what the one reads, as this function sees it
abbrev pub Sees : {A B : Type 0} → (A → B) → (Tlv → Result A Fault) → (Tlv → Result B Fault) → Type 0
Sees f value other = (e : Tlv) → other e ≡ (value e >>= λ x. Ok (f x))

tagged-sees : {A B : Type 0} (tag : ℕ) (f : A → B) (value : Tlv → Result A Fault) (other : Tlv → Result B Fault) → Sees f value other → Sees f (of_tag tag value) (of_tag tag other)
unfolding of_tag
tagged-sees {A} {B} tag f value other sees e = by_tag (tagged_as tag e)
  where
    by_tag : (r : Result Tlv Fault) → (r >>= other) ≡ ((r >>= value) >>= λ x. Ok (f x))
    by_tag (Ok t) = sees t
    by_tag (Err d) = refl

-- the same for items at a place
abbrev moved : {A B : Type 0} → (A → B) → A × Place → Result (B × Place) Fault
moved f x = Ok (f x.0, x.1)

each-sees : {A B : Type 0} (f : A → B) (value : Tlv → Result A Fault) (other : Tlv → Result B Fault) → Sees f value other → (here : Place) → each other here ≡ (each value here >>= moved f)
unfolding each
each-sees {A} {B} f value other sees here = by_next (next_at here)
  where
    by_value : (after : Place) (r : Result A Fault) → ((r >>= λ x. Ok (f x)) >>= λ y. Ok (y, after)) ≡ ((r >>= λ x. Ok (x, after)) >>= moved f)
    by_value after (Ok x) = refl
    by_value after (Err d) = refl

    by_next : (r : Result (Tlv × Place) Fault) → (r >>= λ e. other e.0 >>= λ y. Ok (y, e.1)) ≡ ((r >>= λ e. value e.0 >>= λ x. Ok (x, e.1)) >>= moved f)
    by_next (Ok e) = ap (λ (r : Result B Fault). r >>= λ y. Ok (y, e.1)) (sees e.0) ∙ by_value e.1 (value e.0)
    by_next (Err d) = refl

alone-sees : {A B : Type 0} (f : A → B) (value : Tlv → Result A Fault) (other : Tlv → Result B Fault) → Sees f value other → Sees f (alone value) (alone other)
unfolding alone
alone-sees {A} {B} f value other sees e =
    ap (λ (r : Result (B × Place) Fault). r >>= λ y. end_at y.1 >>= λ done. Ok y.0) (each-sees f value other sees (inside e)) ∙ by_each (each value (inside e))
  where
    by_end : (x : A) (r : Result (Unit {0}) Fault) → (r >>= λ done. Ok (f x)) ≡ ((r >>= λ done. Ok x) >>= λ y. Ok (f y))
    by_end x (Ok done) = refl
    by_end x (Err d) = refl

    by_each : (r : Result (A × Place) Fault) → ((r >>= moved f) >>= λ y. end_at y.1 >>= λ done. Ok y.0) ≡ ((r >>= λ x. end_at x.1 >>= λ done. Ok x.0) >>= λ x. Ok (f x))
    by_each (Ok x) = by_end x.0 (end_at x.1)
    by_each (Err d) = refl

pub optional-sees : {A B : Type 0} (tag : ℕ) (f : A → B) (value : Tlv → Result A Fault) (other : Tlv → Result B Fault) → Sees f value other
    → (here : Place) → optional_of tag other here ≡ (optional_of tag value here >>= moved (option_map f))
unfolding optional_of
optional-sees {A} {B} tag f value other sees here = by_tag (begins_with tag here.rest)
  where
    by_value : (after : Place) (r : Result A Fault) → ((r >>= λ x. Ok (f x)) >>= λ y. Ok (Some y, after)) ≡ ((r >>= λ x. Ok (Some x, after)) >>= moved (option_map f))
    by_value after (Ok x) = refl
    by_value after (Err d) = refl

    by_next : (r : Result (Tlv × Place) Fault) → (r >>= λ e. other e.0 >>= λ y. Ok (Some y, e.1)) ≡ ((r >>= λ e. value e.0 >>= λ x. Ok (Some x, e.1)) >>= moved (option_map f))
    by_next (Ok e) = ap (λ (r : Result B Fault). r >>= λ y. Ok (Some y, e.1)) (sees e.0) ∙ by_value e.1 (value e.0)
    by_next (Err d) = refl

    by_tag : (b : Bool) → cond {A = Result (Option B × Place) Fault} b (element_at tag here >>= λ e. other e.0 >>= λ y. Ok (Some y, e.1)) (Ok (None, here))
        ≡ (cond {A = Result (Option A × Place) Fault} b (element_at tag here >>= λ e. value e.0 >>= λ x. Ok (Some x, e.1)) (Ok (None, here)) >>= moved (option_map f))
    by_tag true = by_next (element_at tag here)
    by_tag false = refl

-- ---- extensions

extension-sees : Sees unlocated located_in (of_tag 0x30 extension_of)
extension-sees = tagged-sees 0x30 unlocated located_of extension_of (λ e. refl)

all-say : (n : ℕ) (here : Place) → many_from n (each (of_tag 0x30 extension_of)) here ≡ (many_from n (each located_in) here >>= λ xs. Ok (map unlocated xs))
all-say zero here = refl
all-say (suc n) here = by_end (λ after. all-say n after) (is_end here.rest)
  where
    others : Located × Place → Result (List Located) Fault
    others x = many_from n (each located_in) x.1 >>= λ ys. Ok (x.0 ∷ ys)

    their : Extension × Place → Result (List Extension) Fault
    their x = many_from n (each (of_tag 0x30 extension_of)) x.1 >>= λ ys. Ok (x.0 ∷ ys)

    by_others : (x : Located) (r : Result (List Located) Fault) → ((r >>= λ ys. Ok (map unlocated ys)) >>= λ ys. Ok (unlocated x ∷ ys)) ≡ ((r >>= λ ys. Ok (x ∷ ys)) >>= λ ys. Ok (map unlocated ys))
    by_others x (Ok ys) = refl
    by_others x (Err f) = refl

    they : Type 0
    they = (after : Place) → many_from n (each (of_tag 0x30 extension_of)) after ≡ (many_from n (each located_in) after >>= λ xs. Ok (map unlocated xs))

    by_item : they → (r : Result (Located × Place) Fault) → ((r >>= moved unlocated) >>= their) ≡ ((r >>= others) >>= λ xs. Ok (map unlocated xs))
    by_item more (Ok x) = ap (λ (r : Result (List Extension) Fault). r >>= λ ys. Ok (unlocated x.0 ∷ ys)) (more x.1) ∙ by_others x.0 (many_from n (each located_in) x.1)
    by_item more (Err f) = refl

    by_end : they → (b : Bool) → cond b (Ok []) (each (of_tag 0x30 extension_of) here >>= their) ≡ (cond b (Ok []) (each located_in here >>= others) >>= λ xs. Ok (map unlocated xs))
    by_end more true = refl
    by_end more false = ap (λ (r : Result (Extension × Place) Fault). r >>= their) (each-sees unlocated located_in (of_tag 0x30 extension_of) extension-sees here) ∙ by_item more (each located_in here)

pub extensions-see : Sees (map unlocated) all_located_of extensions_of
unfolding some_of many
extensions-see e =
    ap (λ (r : Result (List Extension) Fault). r >>= λ xs. value_at some_rules (λ c. c) e >>= λ some. Ok xs) (all-say (length e.content) (inside e))
    ∙ by_all (many_from (length e.content) (each located_in) (inside e))
  where
    by_some : (xs : List Located) (r : Result (List ℕ) Fault) → (r >>= λ some. Ok (map unlocated xs)) ≡ ((r >>= λ some. Ok xs) >>= λ ys. Ok (map unlocated ys))
    by_some xs (Ok c) = refl
    by_some xs (Err f) = refl

    by_all : (r : Result (List Located) Fault)
        → ((r >>= λ xs. Ok (map unlocated xs)) >>= λ xs. value_at some_rules (λ c. c) e >>= λ some. Ok xs)
        ≡ ((r >>= λ xs. value_at some_rules (λ c. c) e >>= λ some. Ok xs) >>= λ xs. Ok (map unlocated xs))
    by_all (Ok xs) = by_some xs (value_at some_rules (λ c. c) e)
    by_all (Err f) = refl

pub explicit_extensions-see : Sees (map unlocated) explicit_all_located_of explicit_extensions_of
explicit_extensions-see = alone-sees (map unlocated) (of_tag 0x30 all_located_of) (of_tag 0x30 extensions_of) (tagged-sees 0x30 (map unlocated) all_located_of extensions_of extensions-see)

-- ---- a list that was read is seen as what its extensions say

as_unlocated : {X : Type 0} (list : X → Extensions) (value : Tlv → Result (List Located) Fault) (other : Tlv → Result (List Extension) Fault) → Sees (map unlocated) value other
    → (e : Tlv) (r : Result X Fault) → Answers (λ x. all_located_in (list x)) r (value e) → Answers (λ x. extensions_in (list x)) r (other e)
as_unlocated list value other sees e (Ok x) a = sees e ∙ ap (λ (r : Result (List Located) Fault). r >>= λ xs. Ok (map unlocated xs)) a
as_unlocated list value other sees e (Err f) a = sees e ∙ ap (λ (r : Result (List Located) Fault). r >>= λ xs. Ok (map unlocated xs)) a

pub say : (e : Tlv) (r : Result Extensions Fault) → Answers all_located_in r (all_located_of e) → Answers extensions_in r (extensions_of e)
say = as_unlocated (λ x. x) all_located_of extensions_of extensions-see

-- the same for what holds the list
pub say-explicit : {X : Type 0} (list : X → Extensions) (e : Tlv) (r : Result X Fault) → Answers (λ x. all_located_in (list x)) r (explicit_all_located_of e)
    → Answers (λ x. extensions_in (list x)) r (explicit_extensions_of e)
say-explicit list = as_unlocated list explicit_all_located_of explicit_extensions_of explicit_extensions-see
