-- Names that a certificate shows, as they are walked over.
use Rattle.std.proofs.Common.{◌≡◌, Bool, true, false, cond, List, [], ◌∷◌, ◌++◌, Option, Some, None, refl, sym, ap, subst, ◌∙◌}
use Rattle.std.specs.Prelude.{map, filter, is_some}
use Rattle.std.specs.List.{flat_map}
use Rattle.std.specs.Str.{bytes_eq}
use Rattle.std.specs.Iterator.{YieldsFirstBy}
use Rattle.std.proofs.lemmas.Bool.{false≢true}
use Rattle.std.proofs.lemmas.List.{map-append, append_assoc, append-nil}
use Rattle.ts_name.specs.Canon.{Attr}
use Rattle.ts_name.specs.General.{GeneralName, rfc822Name, directoryName}
use Rattle.ts_constraint.specs.Names.{email_address, addresses_of, subject_names}

-- a subject that is not empty
pub shown : (rdns : List (List Attr)) → (rdns ≡ [] → ⊥) → subject_names rdns ≡ directoryName rdns ∷ []
shown [] not = absurd (not refl)
shown (r ∷ rdns) not = refl

pub not-empty : {X : Type 0} (view : X → List Attr) (rest after : List (List Attr)) (o : Option X) → YieldsFirstBy view (λ r. r) rest o after → is_some o ≡ true → rest ≡ [] → ⊥
not-empty view rest after None steps some e = absurd (false≢true some)
not-empty view rest after (Some x) steps some e = cc

abbrev pub joined : List (List Attr) → List Attr
joined rdns = flat_map (λ rdn. rdn) rdns

kept : (xs ys : List Attr)
    → filter (λ (a : Attr). bytes_eq a.kind email_address) (xs ++ ys) ≡ filter
    (λ (a : Attr). bytes_eq a.kind email_address) xs
    ++ filter (λ (a : Attr). bytes_eq a.kind email_address) ys
kept [] ys = refl
kept (x ∷ xs) ys = by_test (kept xs ys) (bytes_eq x.kind email_address)
  where
    by_test : filter (λ (a : Attr). bytes_eq a.kind email_address) (xs ++ ys) ≡ filter (λ (a : Attr). bytes_eq a.kind email_address) xs ++ filter (λ (a : Attr). bytes_eq a.kind email_address) ys
        → (t : Bool) → cond t (x ∷ filter (λ (a : Attr). bytes_eq a.kind email_address) (xs ++ ys)) (filter (λ (a : Attr). bytes_eq a.kind email_address) (xs ++ ys))
        ≡ cond t (x ∷ filter (λ (a : Attr). bytes_eq a.kind email_address) xs) (filter (λ (a : Attr). bytes_eq a.kind email_address) xs) ++ filter (λ (a : Attr). bytes_eq a.kind email_address) ys
    by_test more true = ap (λ (zs : List Attr). x ∷ zs) more
    by_test more false = more

pub addresses-append : (xs ys : List Attr) → addresses_of (xs ++ ys) ≡ addresses_of xs ++ addresses_of ys
addresses-append xs ys =
    ap (map (λ (a : Attr). rfc822Name a.value)) (kept xs ys)
    ∙ map-append (λ (a : Attr). rfc822Name a.value) (filter (λ (a : Attr). bytes_eq a.kind email_address) xs) (filter (λ (a : Attr). bytes_eq a.kind email_address) ys)

pub no-address : (x : Attr) → false ≡ bytes_eq x.kind email_address → addresses_of (x ∷ []) ≡ []
no-address x e = ap (λ (t : Bool). map (λ (a : Attr). rfc822Name a.value) (cond t (x ∷ []) [])) (sym e)

pub an-address : (x : Attr) → true ≡ bytes_eq x.kind email_address → addresses_of (x ∷ []) ≡ rfc822Name x.value ∷ []
an-address x e = ap (λ (t : Bool). map (λ (a : Attr). rfc822Name a.value) (cond t (x ∷ []) [])) (sym e)

-- the addresses before one, the one, and those after it
pub address-at : (front rest : List Attr) (x : Attr) → true ≡ bytes_eq x.kind email_address → addresses_of (front ++ x ∷ rest) ≡ addresses_of front ++ rfc822Name x.value ∷ addresses_of rest
address-at front rest x e =
    addresses-append front (x ∷ rest)
    ∙ ap (λ (zs : List GeneralName). addresses_of front ++ zs) (addresses-append (x ∷ []) rest ∙ ap (λ (zs : List GeneralName). zs ++ addresses_of rest) (an-address x e))

pub joined-append : (xs ys : List (List Attr)) → joined (xs ++ ys) ≡ joined xs ++ joined ys
joined-append [] ys = refl
joined-append (x ∷ xs) ys = ap (λ (zs : List Attr). x ++ zs) (joined-append xs ys) ∙ sym (append_assoc x (joined xs) (joined ys))

-- the addresses of relative distinguished names before one, of the one, and of those after it
pub addresses-at : (front rest : List (List Attr)) (r : List Attr) → addresses_of (joined (front ++ r ∷ rest)) ≡ addresses_of (joined front) ++ (addresses_of r ++ addresses_of (joined rest))
addresses-at front rest r =
    ap addresses_of (joined-append front (r ∷ rest))
    ∙ (addresses-append (joined front) (joined (r ∷ rest)) ∙ ap (λ (zs : List GeneralName). addresses_of (joined front) ++ zs) (addresses-append r (joined rest)))

-- one item more of a front
pub goes : {A : Type 0} (all front rest : List A) (x : A) → all ≡ front ++ x ∷ rest → all ≡ (front ++ x ∷ []) ++ rest
goes all front rest x e = e ∙ sym (append_assoc front (x ∷ []) rest)
