-- The test of two names says whether their canonical forms are equal.
use Rattle.std.proofs.Common.{◌≡◌, ◌↔◌, Bool, true, false, IsTrue, ◌&&◌, List, [], ◌∷◌, refl, sym, ap, Decides}
use Rattle.std.specs.Cmp.Lexicographic.{pointwise}
use Rattle.std.proofs.lemmas.Bool.{false≢true}
use Rattle.std.proofs.lemmas.Bool.Decides.{Decides-eqb}
use Rattle.std.proofs.lemmas.Slice.Eq.{bytes_eq-Decides}
use Rattle.ts_name.specs.Canon.{Attr, CanonAttr}
use Rattle.ts_name.specs.Sameness.{canon_name, is_same_attr, is_same_name}

both : (p q : Bool) (P Q : Type 0) → Decides p P → Decides q Q → Decides (p && q) (P × Q)
both true q P Q d e = (λ t. (d.0 refl, e.0 t), λ h. e.1 h.1)
both false q P Q d e = (λ t. absurd (false≢true t), λ h. absurd (false≢true (d.1 h.0)))

-- lists are compared element by element
each : {X : Type 0} (E : X → X → Bool) → ((x y : X) → Decides (E x y) (x ≡ y)) → (xs ys : List X) → Decides (pointwise E xs ys) (xs ≡ ys)
each E d [] [] = (λ _. refl, λ _. refl)
each E d [] (y ∷ ys) = (λ t. absurd (false≢true t), λ e. cc)
each E d (x ∷ xs) [] = (λ t. absurd (false≢true t), λ e. cc)
each E d (x ∷ xs) (y ∷ ys) =
    let h = both (E x y) (pointwise E xs ys) (x ≡ y) (xs ≡ ys) (d x y) (each E d xs ys) in
    (λ t. let p = h.0 t in let head = p.0 in let tail = p.1 in cc, λ e. h.1 (cc, cc))

one_attr : (a b : CanonAttr) → Decides (is_same_attr a b) (a ≡ b)
one_attr a b =
    let h = both _ _ _ _ (bytes_eq-Decides a.kind b.kind) (both _ _ _ _ (Decides-eqb a.tag b.tag) (bytes_eq-Decides a.value b.value)) in (
      λ t. let p = h.0 t in λ i. record { kind = p.0 i; tag = p.1.0 i; value = p.1.1 i },
      λ e. h.1 (ap (λ (c : CanonAttr). c.kind) e, (ap (λ (c : CanonAttr). c.tag) e, ap (λ (c : CanonAttr). c.value) e)),
    )

pub decides : (a b : List (List Attr)) → Decides (is_same_name a b) (canon_name a ≡ canon_name b)
unfolding is_same_name
decides a b = each (pointwise is_same_attr) (each is_same_attr one_attr) (canon_name a) (canon_name b)

two_tests : (s t : Bool) (P : Type 0) → (IsTrue s ↔ P) → Decides t P → s ≡ t
two_tests true t P h d = sym (d.1 (h.0 refl))
two_tests false true P h d = absurd (false≢true (h.1 (d.0 refl)))
two_tests false false P h d = refl

-- what answers whether they are equal is that test
pub same_is : (b : Bool) (a c : List (List Attr)) → (IsTrue b ↔ (canon_name a ≡ canon_name c)) → b ≡ is_same_name a c
same_is b a c h = two_tests b (is_same_name a c) (canon_name a ≡ canon_name c) h (decides a c)
