-- When two attributes have one canonical form.
use Rattle.std.proofs.Common.{◌≡◌, ◌↔◌, ℕ, Bool, true, false, List, refl, sym, ap, ◌∙◌}
use Rattle.std.proofs.lemmas.Bool.{false≢true}
use Rattle.ts_name.specs.Canon.{Attr, CanonAttr, is_text, canonical_text, canon_attr}

abbrev pub canon_of : List ℕ → ℕ → List ℕ → CanonAttr
canon_of kind tag value = record { kind = kind; tag = tag; value = value }

pub text : (a : Attr) → is_text a.tag ≡ true → canon_attr a ≡ canon_of a.kind 0x0C (canonical_text a.value)
unfolding canon_attr
text a t = rw t refl

pub no_text : (a : Attr) → is_text a.tag ≡ false → canon_attr a ≡ canon_of a.kind a.tag a.value
unfolding canon_attr
no_text a f = rw f refl

canon-kind : (a : Attr) (t : Bool) → is_text a.tag ≡ t → (canon_attr a).kind ≡ a.kind
canon-kind a true t = ap (λ (c : CanonAttr). c.kind) (text a t)
canon-kind a false f = ap (λ (c : CanonAttr). c.kind) (no_text a f)

pub same_kind : (a b : Attr) → canon_attr a ≡ canon_attr b → a.kind ≡ b.kind
same_kind a b e = sym (canon-kind a (is_text a.tag) refl) ∙ ap (λ (c : CanonAttr). c.kind) e ∙ canon-kind b (is_text b.tag) refl

pub both_text : (a b : Attr) → a.kind ≡ b.kind → is_text a.tag ≡ true → is_text b.tag ≡ true → (canonical_text a.value ≡ canonical_text b.value) ↔ (canon_attr a ≡ canon_attr b)
both_text a b k t u =
    rw (text a t, text b u) (λ v. rw (k, v) refl, λ e. ap (λ (c : CanonAttr). c.value) e)

pub not_both_text : (a b : Attr) → a.kind ≡ b.kind → (is_text a.tag ≡ true → is_text b.tag ≡ false) → ((a.tag ≡ b.tag) × (a.value ≡ b.value)) ↔ (canon_attr a ≡ canon_attr b)
not_both_text a b k n = by_text (is_text a.tag) refl (is_text b.tag) refl
  where
    by_text : (t : Bool) → is_text a.tag ≡ t → (u : Bool) → is_text b.tag ≡ u → ((a.tag ≡ b.tag) × (a.value ≡ b.value)) ↔ (canon_attr a ≡ canon_attr b)
    by_text true t true u = absurd (false≢true (sym (n t) ∙ u))
    by_text true t false u = (
      λ e. absurd (false≢true (sym u ∙ ap is_text (sym e.0) ∙ t)),
      λ e. absurd
          (false≢true (sym u ∙ ap is_text
          (sym (ap (λ (c : CanonAttr). c.tag) (sym (text a t) ∙ e ∙ no_text b u))))),
    )
    by_text false t true u = (λ e. absurd (false≢true (sym t ∙ ap is_text e.0 ∙ u)), λ e. absurd (false≢true (sym t ∙ ap is_text (ap (λ (c : CanonAttr). c.tag) (sym (no_text a t) ∙ e ∙ text b u)))))
    by_text false t false u = rw (no_text a t, no_text b u) (λ e. rw (k, e.0, e.1) refl, λ e. (ap (λ (c : CanonAttr). c.tag) e, ap (λ (c : CanonAttr). c.value) e))
