-- Ids that are held, and given free.
use Rattle.std.proofs.Common.{◌≡◌, ℕ, Bool, true, false, cond, List, [], ◌∷◌, refl, sym, ◌∙◌, ap, subst, Option, Some, None}
use Rattle.std.specs.Prelude.{is_some}
use Rattle.std.specs.declared.cmp.Ordering.{Ordering}
use Rattle.std.specs.declared.cmp.Ordering.TheVariants.{Less, Equal, Greater}
use Rattle.std.specs.Cmp.Lexicographic.{slice_cmp}
use Rattle.std.specs.Ordering.{nat_cmp, is_eq, match_ordering}
use Rattle.std.proofs.lemmas.Cmp.{tied_itself, nat_list_cmp_total}
use Rattle.std.proofs.lemmas.Map.Lookups.{exact_bytes}
use Rattle.ts_store.specs.Ids.{first_of, with_first, without}
use Rattle.ts_store.specs.declared.ids.FirstCommand.{FirstCommand}

itself : (id : List ℕ) → slice_cmp nat_cmp id id ≡ Equal
itself = tied_itself nat_list_cmp_total

pub none-some : {A : Type 0} (x : A) → (let n : Option A = None in n ≡ Some x) → ⊥
none-some x e = absurd cc

-- an id that is held has its command
pub is-held : (id : List ℕ) (first : FirstCommand) (ids : List (List ℕ × FirstCommand)) → first_of id (with_first id first ids) ≡ Some first
is-held id first [] = ap (λ (o : Ordering). cond (is_eq o) (Some first) None) (itself id)
is-held id first (e ∷ ids) = by (slice_cmp nat_cmp id e.0) refl (is-held id first ids)
  where
    by : (o : Ordering) → slice_cmp nat_cmp id e.0 ≡ o
        → first_of id (with_first id first ids) ≡ Some first
        → first_of id (match_ordering o ((id, first) ∷ e ∷ ids) ((e.0, first) ∷ ids)
        (e ∷ with_first id first ids)) ≡ Some first
    by Less is more = ap (λ (o : Ordering). cond (is_eq o) (Some first) (first_of id (e ∷ ids))) (itself id)
    by Equal is more = ap (λ (o : Ordering). cond (is_eq o) (Some first) (first_of id ids)) is
    by Greater is more = ap (λ (o : Ordering). cond (is_eq o) (Some e.1) (first_of id (with_first id first ids))) is ∙ more

-- others keep theirs
pub is-kept : (id other : List ℕ) (first : FirstCommand) (ids : List (List ℕ × FirstCommand))
    → is_eq (slice_cmp nat_cmp other id) ≡ false
    → first_of other (with_first id first ids) ≡ first_of other ids
is-kept id other first [] apart = ap (λ (b : Bool). cond b (Some first) None) apart
is-kept id other first (e ∷ ids) apart = by (slice_cmp nat_cmp id e.0) refl (is-kept id other first ids apart)
  where
    by : (o : Ordering) → slice_cmp nat_cmp id e.0 ≡ o → first_of other (with_first id first ids) ≡ first_of other ids
        → first_of other (match_ordering o ((id, first) ∷ e ∷ ids) ((e.0, first) ∷ ids) (e ∷ with_first id first ids)) ≡ first_of other (e ∷ ids)
    by Less is more = ap (λ (b : Bool). cond b (Some first) (first_of other (e ∷ ids))) apart
    by Equal is more =
        let there : is_eq (slice_cmp nat_cmp other e.0) ≡ false = subst (λ (k : List ℕ). is_eq (slice_cmp nat_cmp other k) ≡ false) (exact_bytes id e.0 is) apart in
        ap (λ (b : Bool). cond b (Some first) (first_of other ids)) there ∙ sym (ap (λ (b : Bool). cond b (Some e.1) (first_of other ids)) there)
    by Greater is more = ap (λ (o : Option FirstCommand). cond (is_eq (slice_cmp nat_cmp other e.0)) (Some e.1) o) more

absent : (o : Ordering) (x : FirstCommand) (rest : Option FirstCommand) → o ≡ Equal → cond (is_eq o) (Some x) rest ≡ None → ⊥
absent Less x rest is e = absurd cc
absent Equal x rest is e = absurd cc
absent Greater x rest is e = absurd cc

later : (o : Ordering) (x : FirstCommand) (rest : Option FirstCommand) → o ≡ Greater → cond (is_eq o) (Some x) rest ≡ None → rest ≡ None
later Less x rest is e = absurd cc
later Equal x rest is e = absurd cc
later Greater x rest is e = e

-- an id that was held and is given free
pub is-free : (id : List ℕ) (first : FirstCommand) (ids : List (List ℕ × FirstCommand)) → first_of id ids ≡ None → without id (with_first id first ids) ≡ ids
is-free id first [] none = ap (λ (o : Ordering). cond (is_eq o) [] ((id, first) ∷ [])) (itself id)
is-free id first (e ∷ ids) none = by (slice_cmp nat_cmp id e.0) refl (is-free id first ids)
  where
    by : (o : Ordering) → slice_cmp nat_cmp id e.0 ≡ o → (first_of id ids ≡ None → without id (with_first id first ids) ≡ ids)
        → without id (match_ordering o ((id, first) ∷ e ∷ ids) ((e.0, first) ∷ ids) (e ∷ with_first id first ids)) ≡ e ∷ ids
    by Less is more = ap (λ (o : Ordering). cond (is_eq o) (e ∷ ids) ((id, first) ∷ without id (e ∷ ids))) (itself id)
    by Equal is more = absurd (absent (slice_cmp nat_cmp id e.0) e.1 (first_of id ids) is none)
    by Greater is more =
        ap (λ (o : Ordering). cond (is_eq o) (with_first id first ids) (e ∷ without id (with_first id first ids))) is
        ∙ ap (λ (l : List (List ℕ × FirstCommand)). e ∷ l) (more (later (slice_cmp nat_cmp id e.0) e.1 (first_of id ids) is none))

-- of two commands for an id the second one stays
pub is-settled : (id : List ℕ) (first second : FirstCommand) (ids : List (List ℕ × FirstCommand)) → first_of id ids ≡ None → with_first id second (with_first id first ids) ≡ with_first id second ids
is-settled id first second [] none = ap (λ (o : Ordering). match_ordering o ((id, second) ∷ (id, first) ∷ []) ((id, second) ∷ []) ((id, first) ∷ (id, second) ∷ [])) (itself id)
is-settled id first second (e ∷ ids) none = by (slice_cmp nat_cmp id e.0) refl (is-settled id first second ids)
  where
    by : (o : Ordering) → slice_cmp nat_cmp id e.0 ≡ o → (first_of id ids ≡ None → with_first id second (with_first id first ids) ≡ with_first id second ids)
        → with_first id second
        (match_ordering o ((id, first) ∷ e ∷ ids) ((e.0, first) ∷ ids)
        (e ∷ with_first id first ids)) ≡ match_ordering o ((id, second) ∷ e ∷ ids)
        ((e.0, second) ∷ ids) (e ∷ with_first id second ids)
    by Less is more =
        ap (λ (o : Ordering). match_ordering o ((id, second) ∷ (id, first) ∷ e ∷ ids) ((id, second) ∷ e ∷ ids) ((id, first) ∷ with_first id second (e ∷ ids))) (itself id)
    by Equal is more = absurd (absent (slice_cmp nat_cmp id e.0) e.1 (first_of id ids) is none)
    by Greater is more =
        ap (λ (o : Ordering). match_ordering o ((id, second) ∷ e ∷ with_first id first ids) ((e.0, second) ∷ with_first id first ids) (e ∷ with_first id second (with_first id first ids))) is
        ∙ ap (λ (l : List (List ℕ × FirstCommand)). e ∷ l) (more (later (slice_cmp nat_cmp id e.0) e.1 (first_of id ids) is none))

pub some-held : (id : List ℕ) (first : FirstCommand) (ids : List (List ℕ × FirstCommand)) → is_some (first_of id (with_first id first ids)) ≡ true
some-held id first ids = ap is_some (is-held id first ids)
