-- What `==` says of owned canonical forms.
use Rattle.std.proofs.Common.{◌≡◌, Bool, true, false, eqb, ◌&&◌, List, [], ◌∷◌, refl, ap, Decides}
use Rattle.std.specs.Prelude.{map}
use Rattle.std.specs.Cmp.Lexicographic.{pointwise}
use Rattle.std.proofs.lemmas.Bool.{false≢true}
use Rattle.std.proofs.lemmas.Bool.Decides.{Decides-eqb}
use Rattle.std.proofs.lemmas.Slice.Eq.{bytes_eq-Decides}
use Rattle.ts_name.specs.declared.canon.CanonAttribute.{CanonAttribute}
use Rattle.ts_name.specs.declared.canon.CanonRdn.{CanonRdn}
use Rattle.ts_name.specs.declared.canon.Canon.{Canon}
use Rattle.ts_name.specs.Canon.{CanonAttr}
use Rattle.ts_name.specs.CanonView.{attr_in, attrs_in, rdns_in}

both : (p q : Bool) (P Q : Type 0) → Decides p P → Decides q Q → Decides (p && q) (P × Q)
both true q P Q d e = (λ t. (d.0 refl, e.0 t), λ h. e.1 h.1)
both false q P Q d e = (λ t. absurd (false≢true t), λ h. absurd (false≢true (d.1 h.0)))

-- lists are compared element by element
each : {X Y : Type 0} (view : X → Y) (E : X → X → Bool) → ((x y : X) → Decides (E x y) (view x ≡ view y)) → (xs ys : List X) → Decides (pointwise E xs ys) (map view xs ≡ map view ys)
each view E d [] [] = (λ _. refl, λ _. refl)
each view E d [] (y ∷ ys) = (λ t. absurd (false≢true t), λ e. cc)
each view E d (x ∷ xs) [] = (λ t. absurd (false≢true t), λ e. cc)
each view E d (x ∷ xs) (y ∷ ys) =
    let h = both (E x y) (pointwise E xs ys) (view x ≡ view y) (map view xs ≡ map view ys) (d x y) (each view E d xs ys) in
    (λ t. let p = h.0 t in let head = p.0 in let tail = p.1 in cc, λ e. h.1 (cc, cc))

abbrev eq_attr : CanonAttribute → CanonAttribute → Bool
eq_attr a b = pointwise eqb a.kind.items b.kind.items && (eqb a.tag b.tag && pointwise eqb a.value.items b.value.items)

abbrev eq_rdn : CanonRdn → CanonRdn → Bool
eq_rdn a b = pointwise eq_attr a.attributes.items b.attributes.items

one_attr : (a b : CanonAttribute) → Decides (eq_attr a b) (attr_in a ≡ attr_in b)
one_attr a b =
    let h = both _ _ _ _ (bytes_eq-Decides a.kind.items b.kind.items) (both _ _ _ _ (Decides-eqb a.tag b.tag) (bytes_eq-Decides a.value.items b.value.items)) in (
      λ t. let p = h.0 t in λ i. record { kind = p.0 i; tag = p.1.0 i; value = p.1.1 i },
      λ e. h.1 (ap (λ (c : CanonAttr). c.kind) e, (ap (λ (c : CanonAttr). c.tag) e, ap (λ (c : CanonAttr). c.value) e)),
    )

one_rdn : (a b : CanonRdn) → Decides (eq_rdn a b) (attrs_in a ≡ attrs_in b)
one_rdn a b = each attr_in eq_attr one_attr a.attributes.items b.attributes.items

-- names are equal where their canonical forms are one
pub one_name : (a b : Canon) → Decides (pointwise eq_rdn a.rdns.items b.rdns.items) (rdns_in a ≡ rdns_in b)
one_name a b = each attrs_in eq_rdn one_rdn a.rdns.items b.rdns.items
