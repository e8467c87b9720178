-- Directory names in canonical form, as they are compared.
use Rattle.std.proofs.Common.{◌≡◌, ◌↔◌, Bool, true, false, List, [], ◌∷◌, ◌++◌, ◌⊎◌, inl, inr, refl, sym, ap, subst, ◌∙◌, Ordering}
use Rattle.std.specs.Prelude.{IsTrue, map}
use Rattle.std.specs.Cmp.{IsTotalOrder}
use Rattle.std.specs.Cmp.Lexicographic.{slice_cmp}
use Rattle.std.specs.FinMap.{IsAntisymmetric, slice_cmp-IsAntisymmetric}
use Rattle.std.specs.Ordering.{nat_cmp, ordering_then, is_eq}
use Rattle.std.proofs.lemmas.Bool.{false≢true, true≢false}
use Rattle.std.proofs.lemmas.Cmp.{lists_total}
use Rattle.ts_name.specs.declared.canon.CanonAttribute.{CanonAttribute}
use Rattle.ts_name.specs.declared.canon.CanonRdn.{CanonRdn}
use Rattle.ts_name.specs.declared.canon.Canon.{Canon}
use Rattle.ts_name.specs.Canon.{Attr, CanonAttr, compare_attrs}
use Rattle.ts_name.specs.CanonView.{attr_in, attrs_in, rdns_in as canon_in}
use Rattle.ts_name.specs.Sameness.{canon_name, IsWithin}
use Rattle.ts_name.proofs.Order.{total, one_if_same}
use Rattle.ts_constraint.specs.inside.Directory.{compare_rdns}
use Rattle.ts_constraint.specs.inside.Fronts.{front_cmp, is_front}
use Rattle.ts_constraint.proofs.Fronts.{equal-from, front-of, of-front}

pub rdns-total : IsTotalOrder compare_rdns
rdns-total = lists_total total

pub rdns-exact : IsAntisymmetric compare_rdns
rdns-exact = slice_cmp-IsAntisymmetric (λ a b e. one_if_same a b (ap is_eq e))

-- ---- a name that begins with another

begins : (front name : List (List Attr)) → IsWithin name front → is_front compare_rdns (canon_name front) (canon_name name) ≡ true
begins front name w =
    ap (λ (xs : List (List CanonAttr)). is_front compare_rdns (canon_name front) xs) w.1 ∙ ap is_eq (of-front rdns-total (canon_name front) w.0)

within : (front name : List (List Attr)) → is_front compare_rdns (canon_name front) (canon_name name) ≡ true → IsWithin name front
within front name f = front-of rdns-exact (canon_name front) (canon_name name) (equal-from _ f)

pub within-front : (front name : List (List Attr)) (r : Bool) → IsTrue r ↔ IsWithin name front → r ≡ is_front compare_rdns (canon_name front) (canon_name name)
within-front front name r d = by_test r (is_front compare_rdns (canon_name front) (canon_name name)) refl (λ t. begins front name (d.0 t)) (λ f. d.1 (within front name f))
  where
    by_test : (r b : Bool) → b ≡ b → (r ≡ true → b ≡ true) → (b ≡ true → r ≡ true) → r ≡ b
    by_test true b e f g = sym (f refl)
    by_test false true e f g = g refl
    by_test false false e f g = refl

pub within-front-iff : (front name : List (List Attr)) → IsTrue (is_front compare_rdns (canon_name front) (canon_name name)) ↔ IsWithin name front
within-front-iff front name = (within front name, begins front name)

-- ---- lists in an order of what they are seen as

pub cmp-map : {X A : Type 0} (f : X → A) (by : X → X → Ordering) (R : A → A → Ordering)
    → ((x y : X) → by x y ≡ R (f x) (f y)) → (xs ys : List X)
    → slice_cmp by xs ys ≡ slice_cmp R (map f xs) (map f ys)
cmp-map f by R same [] [] = refl
cmp-map f by R same [] (y ∷ ys) = refl
cmp-map f by R same (x ∷ xs) [] = refl
cmp-map f by R same (x ∷ xs) (y ∷ ys) =
    ap (λ (k : Ordering). ordering_then k (slice_cmp by xs ys)) (same x y) ∙ ap (λ (k : Ordering). ordering_then (R (f x) (f y)) k) (cmp-map f by R same xs ys)

-- owned canonical forms are in the order of what they are
pub canon-order : (a b : Canon)
    → slice_cmp (λ (x y : CanonRdn). slice_cmp
    (λ (p q : CanonAttribute). ordering_then (slice_cmp nat_cmp p.kind.items q.kind.items)
    (ordering_then (nat_cmp p.tag q.tag) (slice_cmp nat_cmp p.value.items q.value.items)))
    x.attributes.items y.attributes.items) a.rdns.items b.rdns.items
    ≡ slice_cmp compare_rdns (canon_in a) (canon_in b)
unfolding compare_attrs
canon-order a b = cmp-map attrs_in _ compare_rdns (λ x y. cmp-map attr_in _ compare_attrs (λ p q. refl) x.attributes.items y.attributes.items) a.rdns.items b.rdns.items
