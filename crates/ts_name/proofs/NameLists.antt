-- Names in canonical form, relative distinguished name by relative distinguished name.
use Rattle.std.proofs.Common.{◌≡◌, ◌↔◌, Bool, true, false, not, Option, Some, None, List, [], ◌∷◌, ◌++◌, refl, sym, ap, ◌∙◌}
use Rattle.std.proofs.lemmas.List.{append_assoc, append_cancel_left, append-nil}
use Rattle.std.specs.Prelude.{IsTrue, is_some}
use Rattle.std.specs.Iterator.{YieldsFirstBy}
use Rattle.ts_name.specs.declared.rdn.Rdn.{Rdn}
use Rattle.ts_name.specs.NameView.{attributes_in}
use Rattle.ts_name.specs.Canon.{Attr, CanonAttr, canon_rdn}
use Rattle.ts_name.specs.Sameness.{canon_name, IsWithin}

pub canon-append : (a b : List (List Attr)) → canon_name (a ++ b) ≡ canon_name a ++ canon_name b
unfolding canon_name
canon-append [] b = refl
canon-append (x ∷ a) b = ap (λ (xs : List (List CanonAttr)). canon_rdn x ∷ xs) (canon-append a b)

-- after what is the same, the rest of a name that lies within a subtree lies within the rest of the subtree
pub rest-within : (passed taken rest more : List (List Attr)) → canon_name passed ≡ canon_name taken → IsWithin (passed ++ rest) (taken ++ more) → IsWithin rest more
rest-within passed taken rest more same within =
    let b = within.0 in
    let left : canon_name (passed ++ rest) ≡ canon_name taken ++ canon_name rest = canon-append passed rest ∙ ap (λ (xs : List (List CanonAttr)). xs ++ canon_name rest) same in
    let right : canon_name (taken ++ more) ++ b ≡ canon_name taken ++ (canon_name more ++ b) =
    ap (λ (xs : List (List CanonAttr)). xs ++ b) (canon-append taken more)
    ∙ append_assoc (canon_name taken) (canon_name more) b in
    (b, append_cancel_left (canon_name taken) (canon_name rest) (canon_name more ++ b) (sym left ∙ (within.1 ∙ right)))

-- a name that has ended lies within no longer one
pub not_longer : (w : List Attr) (more : List (List Attr)) → IsWithin [] (w ∷ more) → ⊥
unfolding canon_name
not_longer w more within = let e = within.1 in absurd cc

pub first-same : (x w : List Attr) (rest more : List (List Attr)) → IsWithin (x ∷ rest) (w ∷ more) → canon_rdn x ≡ canon_rdn w
unfolding canon_name
first-same x w rest more within = let e = within.1 in cc

-- one more on each side
pub same-more : (passed taken : List (List Attr)) (x w : List Attr) → canon_name passed ≡ canon_name taken → canon_rdn x ≡ canon_rdn w → canon_name (passed ++ x ∷ []) ≡ canon_name (taken ++ w ∷ [])
unfolding canon_name
same-more passed taken x w same one =
    canon-append passed (x ∷ [])
    ∙ (ap (λ (xs : List (List CanonAttr)). xs ++ canon_rdn x ∷ []) same ∙ (ap (λ (r : List CanonAttr). canon_name taken ++ r ∷ []) one ∙ sym (canon-append taken (w ∷ []))))

-- a name that begins with another is that one exactly if nothing is left
pub ends-there : (a b rest after : List (List Attr)) (r : Option Rdn) (t : Bool)
    → canon_name a ≡ canon_name b ++ canon_name rest
    → YieldsFirstBy attributes_in (λ (left : List (List Attr)). left) rest r after
    → is_some r ≡ not t → IsTrue t ↔ (canon_name a ≡ canon_name b)
unfolding canon_name
ends-there a b rest after None true e steps s =
    (λ yes. e ∙ (ap (λ (xs : List (List Attr)). canon_name b ++ canon_name xs) steps.0 ∙ append-nil (canon_name b)), λ one. refl)
ends-there a b rest after None false e steps s = absurd cc
ends-there a b rest after (Some x) true e steps s = absurd cc
ends-there a b rest after (Some x) false e steps s = (
  λ yes. absurd cc,
  λ one.
      let longer : canon_name b ++ canon_rdn (attributes_in x) ∷ canon_name after ≡ canon_name b
      ++ [] = ap (λ (xs : List (List Attr)). canon_name b ++ canon_name xs) (sym steps)
      ∙ (sym e ∙ (one ∙ sym (append-nil (canon_name b)))) in
      let none = append_cancel_left (canon_name b) (canon_rdn (attributes_in x) ∷ canon_name after) [] longer in
      absurd cc,
)

-- the canonical form with one relative distinguished name more
pub name-more : (front : List (List Attr)) (x : List Attr) → canon_name (front ++ x ∷ []) ≡ canon_name front ++ canon_rdn x ∷ []
unfolding canon_name
name-more front x = canon-append front (x ∷ [])

pub name-none : canon_name [] ≡ []
unfolding canon_name
name-none = refl

-- ---- laws

pub within-itself : (a : List (List Attr)) → IsWithin a a
within-itself a = ([], sym (append-nil (canon_name a)))

pub within-within : (a b c : List (List Attr)) → IsWithin a b → IsWithin b c → IsWithin a c
within-within a b c ab bc =
    (bc.0 ++ ab.0, ab.1 ∙ (ap (λ (xs : List (List CanonAttr)). xs ++ ab.0) bc.1 ∙ append_assoc (canon_name c) bc.0 ab.0))

pub within-for-the-same : (a b x y : List (List Attr)) → canon_name a ≡ canon_name x → canon_name b ≡ canon_name y → IsWithin a b → IsWithin x y
within-for-the-same a b x y ax bys w = (w.0, sym ax ∙ (w.1 ∙ ap (λ (xs : List (List CanonAttr)). xs ++ w.0) bys))

pub within-both : (a b : List (List Attr)) → IsWithin a b → IsWithin b a → canon_name a ≡ canon_name b
within-both a b ab ba =
    let round : canon_name a ++ (ba.0 ++ ab.0) ≡ canon_name a ++ [] =
    sym (append_assoc (canon_name a) ba.0 ab.0) ∙ (ap (λ (xs : List (List CanonAttr)). xs ++ ab.0) (sym ba.1) ∙ (sym ab.1 ∙ sym (append-nil (canon_name a)))) in
    let none = append_cancel_left (canon_name a) (ba.0 ++ ab.0) [] round in
    ab.1 ∙ (ap (λ (xs : List (List CanonAttr)). canon_name b ++ xs) (no_rest ba.0 ab.0 none) ∙ append-nil (canon_name b))
  where
    no_rest : (x y : List (List CanonAttr)) → x ++ y ≡ [] → y ≡ []
    no_rest [] y e = e
    no_rest (z ∷ x) y e = absurd cc
