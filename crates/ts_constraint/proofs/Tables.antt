-- What the tables of a list of bases find.
use Rattle.std.proofs.Common.{◌≡◌, ◌↔◌, ℕ, suc, ◌+◌, ◌<◌, length, get_or, drop, add-one, Bool, true, false, List, [], ◌∷◌, ◌++◌, ◌⊎◌, inl, inr, refl, sym, ap, subst, ◌∙◌}
use Rattle.std.specs.Prelude.{◌||◌, IsTrue, map}
use Rattle.std.specs.Ordering.{is_eq}
use Rattle.std.proofs.lemmas.Bool.{false≢true, true≢false}
use Rattle.ts_name.specs.Canon.{Attr, CanonAttr}
use Rattle.ts_name.specs.General.{GeneralName, otherName, rfc822Name, dNSName, x400Address, directoryName, ediPartyName, uniformResourceIdentifier, iPAddress, registeredID}
use Rattle.ts_name.specs.Holds.{Holds}
use Rattle.std.proofs.Math.Seq.{drop-cons}
use Rattle.ts_name.specs.declared.subtree.Subtree.{Subtree}
use Rattle.ts_name.specs.Sameness.{canon_name, IsWithin}
use Rattle.ts_name.specs.SubtreeView.{subtree_in}
use Rattle.ts_constraint.specs.declared.form.Form.{Form}
use Rattle.ts_constraint.specs.Conditions.{Some_of}
use Rattle.ts_constraint.specs.inside.Directory.{compare_rdns, directory_form, directory_forms}
use Rattle.ts_constraint.specs.inside.Fronts.{is_front, has_front}
use Rattle.ts_constraint.specs.Names.{form_of, is_processed_form}
use Rattle.ts_constraint.specs.View.{bases_in}
use Rattle.ts_constraint.proofs.DirectoryForms.{within-front-iff}
use Rattle.ts_constraint.proofs.DomainEnds.{along, either}
use Rattle.ts_constraint.proofs.Fronts.{by-key}
use Rattle.ts_constraint.proofs.Lists.{some-left, some-right, some-either}

-- ---- distinguished names

abbrev Forms : Type 0
Forms = List (List (List CanonAttr))

abbrev is_among : Forms → List (List CanonAttr) → Bool
is_among forms name = has_front compare_rdns (λ (k : List (List CanonAttr)). k) forms name

one-more : (base : GeneralName) (forms : Forms) (name : List (List Attr))
    → IsTrue (is_among (directory_form base ++ forms) (canon_name name)) ↔
    (Holds base (directoryName name) ⊎ IsTrue (is_among forms (canon_name name)))
one-more (directoryName subtree) forms name = either (is_front compare_rdns (canon_name subtree) (canon_name name)) (is_among forms (canon_name name)) (within-front-iff subtree name) (λ t. t, λ t. t)
one-more base forms name = (λ t. inr t, λ s. elim s [ inl p ↦ absurd p | inr t ↦ t ])

all-names : (bases : List GeneralName) (name : List (List Attr)) → IsTrue (is_among (directory_forms bases) (canon_name name)) ↔ Some_of (λ base. Holds base (directoryName name)) bases
all-names [] name = (λ t. false≢true t, λ e. absurd e)
all-names (base ∷ bases) name =
    let more = one-more base (directory_forms bases) name in
    let rest = all-names bases name in (
      λ t. elim (more.0 t) [ inl p ↦ inl p | inr u ↦ inr (rest.0 u) ],
      λ s. more.1 (elim s [ inl p ↦ inl p | inr u ↦ inr (rest.1 u) ]),
    )

pub by-names : {X : Type 0} (key : X → List (List CanonAttr)) (gathered : List X) (bases : List GeneralName) (found : Bool) (name : List (List Attr)) → map key gathered ≡ directory_forms bases
    → found ≡ has_front compare_rdns key gathered (canon_name name) → IsTrue found ↔ Some_of (λ base. Holds base (directoryName name)) bases
by-names key gathered bases found name e same =
    along (same ∙ (by-key compare_rdns key gathered (canon_name name) ∙ ap (λ (ks : Forms). is_among ks (canon_name name)) e)) (all-names bases name)

-- ---- names of the forms that are not processed

one-holds : (base name : GeneralName) → is_processed_form (form_of name) ≡ false → Holds base name → ⊥
one-holds (directoryName x) (directoryName y) e h = true≢false e
one-holds (dNSName x) (dNSName y) e h = true≢false e
one-holds (iPAddress x) (iPAddress y) e h = true≢false e
one-holds base name e h = absurd h

pub none-holds : (bases : List GeneralName) (name : GeneralName) → is_processed_form (form_of name) ≡ false → Some_of (λ base. Holds base name) bases → ⊥
none-holds [] name e some = some
none-holds (base ∷ bases) name e some = elim some [ inl p ↦ one-holds base name e p | inr s ↦ none-holds bases name e s ]

-- ---- the forms of bases

abbrev OfForm : Form → GeneralName → Type 0
OfForm form base = form_of base ≡ form

-- each form is among those that were kept, or is that of a base that is left
abbrev pub Left : List Form → List GeneralName → List GeneralName → Type 0
Left kept rest all = (form : Form) → (Some_of (λ f. f ≡ form) kept ⊎ Some_of (λ base. form_of base ≡ form) rest) ↔ Some_of (λ base. form_of base ≡ form) all

moved : (form other : Form) (kept : List Form) → other ≡ form → Some_of (λ f. f ≡ other) kept → Some_of (λ f. f ≡ form) kept
moved form other kept e some = subst (λ (k : Form). Some_of (λ f. f ≡ k) kept) e some

pub forms-again : (kept : List Form) (base : GeneralName) (rest all : List GeneralName) → Left kept (base ∷ rest) all → Some_of (λ f. f ≡ form_of base) kept → Left kept rest all
forms-again kept base rest all left among form = (
  λ s. (left form).0 (elim s [ inl k ↦ inl k | inr r ↦ inr (inr r) ]),
  λ a. elim ((left form).1 a) [ inl k ↦ inl k | inr r ↦ elim r [ inl e ↦ inl (moved form (form_of base) kept e among) | inr u ↦ inr u ] ],
)

pub forms-more : (kept : List Form) (base : GeneralName) (rest all : List GeneralName) → Left kept (base ∷ rest) all → Left (kept ++ form_of base ∷ []) rest all
forms-more kept base rest all left form = (
  λ s. (left form).0 (elim s [
    | inl k ↦ elim (some-either (λ f. f ≡ form) kept (form_of base ∷ []) k)
        [ inl x ↦ inl x | inr y ↦ elim y [ inl e ↦ inr (inl e) | inr z ↦ absurd z ] ]
    | inr r ↦ inr (inr r)
  ]),
  λ a. elim ((left form).1 a) [
    | inl k ↦ inl (some-left (λ f. f ≡ form) kept (form_of base ∷ []) k)
    | inr r ↦ elim r [ inl e ↦ inl (some-right (λ f. f ≡ form) kept (form_of base ∷ []) (inl e)) | inr u ↦ inr u ]
  ],
)

pub forms-all : (kept : List Form) (all : List GeneralName) → Left kept [] all → (form : Form) → Some_of (λ f. f ≡ form) kept ↔ Some_of (λ base. form_of base ≡ form) all
forms-all kept all left form = (λ k. (left form).0 (inl k), λ a. elim ((left form).1 a) [ inl k ↦ k | inr e ↦ absurd e ])

pub forms-again-in : (kept slice : List Form) (form : Form) (base : GeneralName)
    (xs rest all : List GeneralName) → slice ≡ kept → form ≡ form_of base → xs ≡ base ∷ rest
    → Left kept xs all → Some_of (λ f. f ≡ form) slice → Left kept rest all
forms-again-in kept slice form base xs rest all s e x left among =
    forms-again kept base rest all (subst (λ (ys : List GeneralName). Left kept ys all) x left) (moved (form_of base) form kept e (subst (λ (fs : List Form). Some_of (λ f. f ≡ form) fs) s among))

pub forms-more-in : (kept new : List Form) (form : Form) (base : GeneralName)
    (xs rest all : List GeneralName) → new ≡ kept ++ form ∷ [] → form ≡ form_of base → xs ≡ base
    ∷ rest → Left kept xs all → Left new rest all
forms-more-in kept new form base xs rest all n e x left =
    subst (λ (fs : List Form). Left fs rest all) (sym (n ∙ ap (λ (f : Form). kept ++ f ∷ []) e)) (forms-more kept base rest all (subst (λ (ys : List GeneralName). Left kept ys all) x left))

-- the bases from a place on, by the subtree there
pub next-base : (xs : List Subtree) (i : ℕ) (x : Subtree) → i < length xs → x ≡ get_or xs i x → bases_in (drop i xs) ≡ (subtree_in x).base ∷ bases_in (drop (i + 1) xs)
next-base xs i x h is =
    ap bases_in (drop-cons xs i x h)
    ∙ ap (λ (y : Subtree). (subtree_in y).base ∷ bases_in (drop (suc i) xs)) (sym is)
    ∙ ap (λ (n : ℕ). (subtree_in x).base ∷ bases_in (drop n xs)) (sym (add-one i))

-- ---- what is found, of values that are equal

pub held : (name other : GeneralName) (bases seen : List GeneralName) (r found : Bool) → r ≡ found
    → other ≡ name → bases ≡ seen → IsTrue found ↔ Some_of (λ base. Holds base other) bases
    → IsTrue r ↔ Some_of (λ base. Holds base name) seen
held name other bases seen r found e n b d =
    subst (λ (xs : List GeneralName). IsTrue r ↔ Some_of (λ base. Holds base name) xs) b (subst (λ (x : GeneralName). IsTrue r ↔ Some_of (λ base. Holds base x) bases) n (along e d))

pub of-form-held : (form : Form) (slice forms : List Form) (bases seen : List GeneralName)
    (r : Bool) → slice ≡ forms → bases ≡ seen → IsTrue r ↔ Some_of (λ f. f ≡ form) slice
    → (Some_of (λ f. f ≡ form) forms ↔ Some_of (λ base. form_of base ≡ form) bases)
    → IsTrue r ↔ Some_of (λ base. form_of base ≡ form) seen
of-form-held form slice forms bases seen r s b d e =
    let again = subst (λ (fs : List Form). IsTrue r ↔ Some_of (λ f. f ≡ form) fs) s d in
    subst (λ (xs : List GeneralName). IsTrue r ↔ Some_of (λ base. form_of base ≡ form) xs) b ((λ t. e.0 (again.0 t), λ p. again.1 (e.1 p)))

pub never : (name : GeneralName) (bases : List GeneralName) → is_processed_form (form_of name) ≡ false → IsTrue false ↔ Some_of (λ base. Holds base name) bases
never name bases e = (λ t. absurd (false≢true t), λ s. absurd (none-holds bases name e s))
