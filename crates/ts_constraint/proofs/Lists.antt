-- One or none of a list that has a property, and the first name that does not meet a condition.
use Rattle.std.proofs.Common.{◌≡◌, Bool, true, false, not, List, [], ◌∷◌, ◌++◌, ◌⊎◌, inl, inr, Option, Some, None, refl, sym, ap, subst, ◌∙◌}
use Rattle.std.proofs.lemmas.Bool.{false≢true}
use Rattle.std.proofs.lemmas.List.{append_assoc}
use Rattle.ts_name.specs.General.{GeneralName}
use Rattle.ts_constraint.specs.declared.form.Form.{Form}
use Rattle.ts_constraint.specs.declared.condition.Condition.{Condition}
use Rattle.ts_constraint.specs.Conditions.{Some_of, None_of, NameFails, EachNameMeets, FirstNameFails, IsFirstForm}
use Rattle.ts_constraint.specs.Names.{form_of}
use Rattle.ts_constraint.specs.Source.{Source}

pub none-of : {A : Type 0} (P : A → Type 0) (xs : List A) → (Some_of P xs → ⊥) → None_of P xs
none-of P [] not = tt
none-of P (x ∷ xs) not = (λ p. not (inl p), none-of P xs (λ s. not (inr s)))

pub not-some : {A : Type 0} (P : A → Type 0) (xs : List A) → None_of P xs → Some_of P xs → ⊥
not-some P [] none some = some
not-some P (x ∷ xs) none some = elim some [ inl p ↦ none.0 p | inr s ↦ not-some P xs none.1 s ]

pub some-left : {A : Type 0} (P : A → Type 0) (xs ys : List A) → Some_of P xs → Some_of P (xs ++ ys)
some-left P [] ys some = absurd some
some-left P (x ∷ xs) ys some = elim some [ inl p ↦ inl p | inr s ↦ inr (some-left P xs ys s) ]

pub some-right : {A : Type 0} (P : A → Type 0) (xs ys : List A) → Some_of P ys → Some_of P (xs ++ ys)
some-right P [] ys some = some
some-right P (x ∷ xs) ys some = inr (some-right P xs ys some)

pub some-either : {A : Type 0} (P : A → Type 0) (xs ys : List A) → Some_of P (xs ++ ys) → Some_of P xs ⊎ Some_of P ys
some-either P [] ys some = inr some
some-either P (x ∷ xs) ys some = elim some [ inl p ↦ inl (inl p) | inr s ↦ elim (some-either P xs ys s) [ inl q ↦ inl (inr q) | inr q ↦ inr q ] ]

pub some-weaker : {A : Type 0} (P Q : A → Type 0) → ((x : A) → P x → Q x) → (xs : List A) → Some_of P xs → Some_of Q xs
some-weaker P Q f [] some = some
some-weaker P Q f (x ∷ xs) some = elim some [ inl p ↦ inl (f x p) | inr s ↦ inr (some-weaker P Q f xs s) ]

pub none-append : {A : Type 0} (P : A → Type 0) (xs ys : List A) → None_of P xs → None_of P ys → None_of P (xs ++ ys)
none-append P [] ys none more = more
none-append P (x ∷ xs) ys none more = (none.0, none-append P xs ys none.1 more)

-- ---- the first name

-- where the names before meet the condition
pub first-after : (c : Condition) (sources : List Source) (xs ys : List GeneralName) (r : Option Form) → EachNameMeets c sources xs → IsFirstForm c sources ys r → IsFirstForm c sources (xs ++ ys) r
first-after c sources xs ys None meet first = none-append (NameFails c sources) xs ys meet first
first-after c sources xs ys (Some form) meet first =
    record {
      before = xs ++ first.before;
      name = first.name;
      rest = first.rest;
      names_are = ap (λ (zs : List GeneralName). xs ++ zs) first.names_are ∙ sym (append_assoc xs first.before (first.name ∷ first.rest));
      meet = none-append (NameFails c sources) xs first.before meet first.meet;
      fails = first.fails;
      form_is = first.form_is;
    }

-- where it is among the names before
pub first-before : (c : Condition) (sources : List Source) (xs ys : List GeneralName) (form : Form) → FirstNameFails c sources xs form → FirstNameFails c sources (xs ++ ys) form
first-before c sources xs ys form first =
    record {
      before = first.before;
      name = first.name;
      rest = first.rest ++ ys;
      names_are = ap (λ (zs : List GeneralName). zs ++ ys) first.names_are ∙ append_assoc first.before (first.name ∷ first.rest) ys;
      meet = first.meet;
      fails = first.fails;
      form_is = first.form_is;
    }

-- the name after others that meet the condition
pub first-here : (c : Condition) (sources : List Source) (names front rest : List GeneralName) (name : GeneralName) → names ≡ front ++ name ∷ rest
    → EachNameMeets c sources front → NameFails c sources name → FirstNameFails c sources names (form_of name)
first-here c sources names front rest name e meet fails = record { before = front; name = name; rest = rest; names_are = e; meet = meet; fails = fails; form_is = refl }

-- one name more that meets it
pub meets-more : (c : Condition) (sources : List Source) (front : List GeneralName)
    (name : GeneralName) → EachNameMeets c sources front → (NameFails c sources name → ⊥)
    → EachNameMeets c sources (front ++ name ∷ [])
meets-more c sources front name meet not = none-append (NameFails c sources) front (name ∷ []) meet (not, tt)

-- ---- what a list of subtrees says, of names and forms that are equal

pub of-form : (form other : Form) (xs ys : List GeneralName) → form ≡ other → xs ≡ ys → Some_of (λ base. form_of base ≡ form) xs → Some_of (λ base. form_of base ≡ other) ys
of-form form other xs ys e f some =
    subst (λ (zs : List GeneralName). Some_of (λ base. form_of base ≡ other) zs) f (subst (λ (k : Form). Some_of (λ base. form_of base ≡ k) xs) e some)

pub not-true : (b : Bool) → (b ≡ true → ⊥) → not b ≡ true
not-true true f = absurd (f refl)
not-true false f = refl

pub true-not : (b : Bool) → not b ≡ true → b ≡ true → ⊥
true-not true e f = false≢true e
true-not false e f = false≢true f
