-- A connection of a slot is put in the place of another.
use Rattle.std.proofs.Common.{◌≡◌, ◌≢◌, ◌<◌, ◌+◌, ◌∙◌, ℕ, Bool, true, false, List, length, get_or, Some, slice_get, slice_set, nat_eq, refl, sym, ap, subst, arith}
use Rattle.std.proofs.lemmas.Bool.{eq-eqb, eqb-true}
use Rattle.std.proofs.lemmas.List.{length-set, set-get_or, get_or-set_same, get_or-set_other}
use Rattle.std.proofs.lemmas.Option.{slice_get-get_or, slice_get_within, get_or_from_slice_get}
use Rattle.ts_links.specs.declared.link.Link.{Link}
use Rattle.ts_links.specs.declared.link.Stage.TheVariants as stages
use Rattle.ts_links.specs.Moves.{HasRoom}
use Rattle.ts_links.specs.Table.{At}

pub set_same : (links : List Link) (slot : ℕ) (a : Link) → slice_get links slot ≡ Some a → slice_set links slot a ≡ links
set_same links slot a was =
    let e : get_or links slot a ≡ a = get_or_from_slice_get links slot a a was in
    subst (λ (l : Link). slice_set links slot l ≡ links) e (set-get_or links slot a)

pub get_set : (links : List Link) (slot : ℕ) (a b link : Link) → slice_get links slot ≡ Some a → slice_get (slice_set links slot b) slot ≡ Some link → link ≡ b
get_set links slot a b link was is =
    sym (get_or_from_slice_get (slice_set links slot b) slot link link is) ∙ get_or-set_same links slot b link (slice_get_within links slot a was)

pub get_other : (links : List Link) (slot j : ℕ) (b link : Link) → j ≢ slot → slice_get (slice_set links slot b) j ≡ Some link → slice_get links j ≡ Some link
get_other links slot j b link apart is =
    let n : j < length links = subst (λ (k : ℕ). j < k) (length-set links slot b) (slice_get_within (slice_set links slot b) j link is) in
    slice_get-get_or links j link n ∙ ap Some (sym (get_or-set_other links slot j b link apart) ∙ get_or_from_slice_get (slice_set links slot b) j link link is)

pub apart_of : (i slot : ℕ) → nat_eq i slot ≡ false → slot ≢ i
apart_of i slot other same = let e : nat_eq i slot ≡ true = eq-eqb i slot (sym same) in cc

-- one slot has one connection
pub same_link : (links : List Link) (slot : ℕ) (a b : Link) → slice_get links slot ≡ Some a → slice_get links slot ≡ Some b → a ≡ b
same_link links slot a b one other = sym (get_or_from_slice_get links slot a a one) ∙ get_or_from_slice_get links slot b a other

pub was_at : (links : List Link) (slot : ℕ) (b : Link) → slot < length links → b ≡ get_or links slot b → slice_get links slot ≡ Some b
was_at links slot b within is = slice_get-get_or links slot b within ∙ ap Some (sym is)

pub at_one : (P : Link → Type 0) (links : List Link) (n : ℕ) (b : Link) → slice_get links n ≡ Some b → P b → At links n P
at_one P links n b was holds link is = subst P (same_link links n b link was is) holds

-- what holds of the first connections, and of the next
pub below_more : (P : Link → Type 0) (links : List Link) (n : ℕ) (b : Link) → slice_get links n ≡ Some b → P b → ((k : ℕ) → k < n → At links k P) → (k : ℕ) → k < n + 1 → At links k P
below_more P links n b was holds before k low link is = by (nat_eq k n) refl
  where
    by : (same : Bool) → nat_eq k n ≡ same → P link
    by true e = subst P (same_link links n b link was (subst (λ (i : ℕ). slice_get links i ≡ Some link) (eqb-true k n e) is)) holds
    by false e = let apart = apart_of k n e in let less : k < n = omega (arith, low, apart) in before k less link is

-- nothing was put
pub not_open : (links : List Link) (slot : ℕ) (b : Link) → slice_get links slot ≡ Some b
    → (b.stage ≡ stages.Open → ⊥) → (slice_set links slot b ≡ links)
    × At links slot (λ link. link.stage ≡ stages.Open → ⊥)
not_open links slot b was closed = (set_same links slot b was, at_one (λ link. link.stage ≡ stages.Open → ⊥) links slot b was closed)

pub is_full : (links : List Link) (slot : ℕ) (b : Link) → slice_get links slot ≡ Some b → b.stage ≡ stages.Open → (HasRoom b → ⊥)
    → (slice_set links slot b ≡ links) × At links slot (λ link. (link.stage ≡ stages.Open) × (HasRoom link → ⊥))
is_full links slot b was still full = (set_same links slot b was, at_one (λ link. (link.stage ≡ stages.Open) × (HasRoom link → ⊥)) links slot b was (still, full))
