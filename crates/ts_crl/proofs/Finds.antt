-- What is found, and whether there is one.
use Rattle.std.proofs.Common.{◌≡◌, ◌↔◌, Bool, true, false, cond, ◌||◌, List, [], ◌∷◌, Option, Some, None, refl, sym, ap, ◌∙◌}
use Rattle.std.specs.List.{find, list_any}
use Rattle.std.specs.Prelude.{map, is_some, option_map}
use Rattle.std.specs.Str.{bytes_eq}
use Rattle.ts_ext.specs.declared.known.Known.{Known}
use Rattle.ts_extensions.specs.Extension.{Located, unlocated}
use Rattle.ts_ext.specs.Known.{identifier_of}
use Rattle.ts_crl.specs.Values.{is_known}

-- nothing is found where there is none
none-any : {A : Type 0} (test : A → Bool) (xs : List A) → find test xs ≡ None → list_any test xs ≡ false
none-any test [] e = refl
none-any {A} test (x ∷ xs) e = by_test (none-any test xs) (test x) e
  where
    by_test : (find test xs ≡ None → list_any test xs ≡ false) → (b : Bool) → cond b (Some x) (find test xs) ≡ None → (b || list_any test xs) ≡ false
    by_test more true e = absurd cc
    by_test more false e = more e

pub any-none : {A : Type 0} (test : A → Bool) (xs : List A) → list_any test xs ≡ false → find test xs ≡ None
any-none test [] e = refl
any-none {A} test (x ∷ xs) e = by_test (any-none test xs) (test x) e
  where
    by_test : (list_any test xs ≡ false → find test xs ≡ None) → (b : Bool) → (b || list_any test xs) ≡ false → cond b (Some x) (find test xs) ≡ None
    by_test more true e = absurd cc
    by_test more false e = more e

nothing : {X A : Type 0} (view : X → A) (r : Option X) → option_map view r ≡ None → r ≡ None
nothing view None e = refl
nothing view (Some x) e = absurd cc

pub found-if-any : {X A : Type 0} (view : X → A) (r : Option X) (test : A → Bool) (xs : List A) → option_map view r ≡ find test xs → (r ≡ None) ↔ (list_any test xs ≡ false)
found-if-any {X} view r test xs e =
    ((λ n. none-any test xs (sym e ∙ ap (λ (o : Option X). option_map view o) n)), λ n. nothing view r (e ∙ any-none test xs n))

-- there is one where one is found
any-found : {A : Type 0} (test : A → Bool) (xs : List A) → is_some (find test xs) ≡ list_any test xs
any-found test [] = refl
any-found {A} test (x ∷ xs) = by_test (any-found test xs) (test x)
  where
    by_test : is_some (find test xs) ≡ list_any test xs → (b : Bool) → is_some (cond b (Some x) (find test xs)) ≡ (b || list_any test xs)
    by_test more true = refl
    by_test more false = more

some-seen : {X A : Type 0} (view : X → A) (r : Option X) → is_some r ≡ is_some (option_map view r)
some-seen view (Some x) = refl
some-seen view None = refl

pub some-found : {X A : Type 0} (view : X → A) (r : Option X) (test : A → Bool) (xs : List A) → option_map view r ≡ find test xs → is_some r ≡ list_any test xs
some-found {X} {A} view r test xs e = some-seen view r ∙ (ap (λ (o : Option A). is_some o) e ∙ any-found test xs)

pub seen-twice : {X Y Z : Type 0} (f : X → Y) (g : Y → Z) (r : Option X) → option_map (λ x. g (f x)) r ≡ option_map g (option_map f r)
seen-twice f g (Some x) = refl
seen-twice f g None = refl

-- an extension is found by what it says
pub unlocated-find : (known : Known) (xs : List Located) → option_map unlocated (find (λ x. bytes_eq x.extnID (identifier_of known)) xs) ≡ find (is_known known) (map unlocated xs)
unlocated-find known [] = refl
unlocated-find known (x ∷ xs) = by_test (unlocated-find known xs) (bytes_eq x.extnID (identifier_of known))
  where
    by_test : option_map unlocated (find (λ x. bytes_eq x.extnID (identifier_of known)) xs) ≡ find (is_known known) (map unlocated xs)
        → (b : Bool) → option_map unlocated (cond b (Some x) (find (λ x. bytes_eq x.extnID (identifier_of known)) xs)) ≡ cond b (Some (unlocated x)) (find (is_known known) (map unlocated xs))
    by_test more true = refl
    by_test more false = more
