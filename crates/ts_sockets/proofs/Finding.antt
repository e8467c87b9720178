-- What is found among moments so far, and in one slot more.
use Rattle.std.proofs.Common.{rules, ◌≡◌, ◌≤◌, ◌<◌, ◌⊎◌, inl, inr, ◌∙◌, ℕ, ◌+◌, Bool, true, false, List, Option, None, Some, ap, length, map, refl, slice_index_or, subst, sym, true≢false}
use Rattle.std.specs.Prelude.{IfSome, option_map, slice_get}
use Rattle.std.proofs.lemmas.Bool.{cases_lt}
use Rattle.std.proofs.lemmas.List.{length-map}
use Rattle.std.proofs.lemmas.Option.{slice_get-map, slice_get_read, slice_get_within}
use native.Mathlib.Omega.{arith}
use Rattle.ts_sockets.specs.Rooms.{Has, HasNone}
use Rattle.ts_sockets.specs.inside.Found.{IsEarlier, IsLater, IsOneOf}

-- ---- what is looked for

abbrev pub Earlier : ℕ → ℕ → Type 0
Earlier since other = since ≤ other

abbrev pub Later : ℕ → ℕ → Type 0
Later since other = other ≤ since

-- of the first n slots none has a moment, or the one that is found comes before all of them
abbrev pub IsFound : (ℕ → ℕ → Type 0) → List (Option ℕ) → ℕ → Option (ℕ × ℕ) → Type 0
IsFound Before moments n None = (i other : ℕ) → i < n → Has moments i other → ⊥
IsFound Before moments n (Some found) = Has moments found.0 found.1
    × ((i other : ℕ) → i < n → Has moments i other → Before found.1 other)

some_is : (a b : ℕ) → Some (Some a) ≡ Some (Some b) → a ≡ b
some_is a b is = search rules

abbrev has_moment : Option (Option ℕ) → Bool
has_moment (Some (Some a)) = true
has_moment other = false

abbrev no_moment : Option ℕ
no_moment = None

not_none : (a : ℕ) → Some (Some a) ≡ Some no_moment → ⊥
not_none a is = true≢false (ap has_moment is)

no_pair : (f : ℕ × ℕ) → None ≡ Some f → ⊥
no_pair f is = cc

last : (i n : ℕ) → i < n + 1 → n ≤ i → i ≡ n
last i n less more = omega (arith, less, more)

-- what holds of the slots before one, and of it
each : (P : ℕ → Type 0) (n : ℕ) → ((i : ℕ) → i < n → P i) → P n → (i : ℕ) → i < n + 1 → P i
each P n before here i less = go (cases_lt i n) where
  go : (i < n) ⊎ (n ≤ i) → P i
  go (inl below) = before i below
  go (inr above) = subst P (sym (last i n less above)) here

pub none_yet : (Before : ℕ → ℕ → Type 0) (moments : List (Option ℕ)) → IsFound Before moments 0 None
none_yet Before moments i other less has = search rules

-- the slot has no moment
pub passed_over : (Before : ℕ → ℕ → Type 0) (moments : List (Option ℕ)) (n : ℕ) (found : Option (ℕ × ℕ))
    → slice_get moments n ≡ Some None → IsFound Before moments n found → IsFound Before moments (n + 1) found
passed_over Before moments n None none so = λ i other less has.
    each (λ i. (other : ℕ) → Has moments i other → ⊥) n (λ i less other. so i other less)
    (λ other has. not_none other (sym has ∙ none)) i less other has
passed_over Before moments n (Some found) none so = (
  so.0,
  λ i other less has.
      each (λ i. (other : ℕ) → Has moments i other → Before found.1 other) n (λ i less other. so.1 i other less)
      (λ other has. elim (not_none other (sym has ∙ none)) [ ]) i less other has,
)

-- ---- the slot has a moment: the better one of what was found and of it is found

-- what is found has its moment, as it is one of both
has_best : (moments : List (Option ℕ)) (n since : ℕ) (found : Option (ℕ × ℕ)) (best : ℕ × ℕ)
    → Has moments n since → ((f : ℕ × ℕ) → found ≡ Some f → Has moments f.0 f.1) → IsOneOf found (n, since) best → Has moments best.0 best.1
has_best moments n since found best has before (inl is) = before best is
has_best moments n since found best has before (inr is) = subst (λ (one : ℕ × ℕ). Has moments one.0 one.1) (sym is) has

-- it comes before the one more, and so before whatever has that one's slot
at_last : (Before : ℕ → ℕ → Type 0) (moments : List (Option ℕ)) (n since best : ℕ) → Has moments n since → Before best since
    → (other : ℕ) → Has moments n other → Before best other
at_last Before moments n since best has first other here = subst (Before best) (some_is since other (sym has ∙ here)) first

found_is : (found f : ℕ × ℕ) → Some found ≡ Some f → found ≡ f
found_is found f is = cc

pub one_more : (Before : ℕ → ℕ → Type 0) → ((a b c : ℕ) → Before a b → Before b c → Before a c)
    → (moments : List (Option ℕ)) (n since : ℕ) (found : Option (ℕ × ℕ)) (best : ℕ × ℕ)
    → Has moments n since → IsOneOf found (n, since) best → Before best.1 since → IfSome found (λ f. Before best.1 f.1)
    → IsFound Before moments n found → IsFound Before moments (n + 1) (Some best)
one_more Before joined moments n since None best has is_one first before so = (
  has_best moments n since None best has (λ f is. absurd (no_pair f is)) is_one,
  λ i other less here.
      each (λ i. (other : ℕ) → Has moments i other → Before best.1 other) n (λ i less other has. elim (so i other less has) [ ])
      (at_last Before moments n since best.1 has first) i less other here,
)
one_more Before joined moments n since (Some found) best has is_one first before so = (
  has_best moments n since (Some found) best has (λ f is. subst (λ (f : ℕ × ℕ). Has moments f.0 f.1) (found_is found f is) so.0) is_one,
  λ i other less here.
      each (λ i. (other : ℕ) → Has moments i other → Before best.1 other) n
      (λ i less other has. joined best.1 found.1 other before (so.1 i other less has))
      (at_last Before moments n since best.1 has first) i less other here,
)

pub one_earlier : (moments : List (Option ℕ)) (n since : ℕ) (found : Option (ℕ × ℕ)) (best : ℕ × ℕ)
    → Has moments n since → IsEarlier found (n, since) best → IsFound Earlier moments n found → IsFound Earlier moments (n + 1) (Some best)
one_earlier moments n since found best has is so =
    one_more Earlier (λ a b c first then. omega (arith, first, then)) moments n since found best has is.is_one is.not_behind_one is.not_behind_found so

pub one_later : (moments : List (Option ℕ)) (n since : ℕ) (found : Option (ℕ × ℕ)) (best : ℕ × ℕ)
    → Has moments n since → IsLater found (n, since) best → IsFound Later moments n found → IsFound Later moments (n + 1) (Some best)
one_later moments n since found best has is so =
    one_more Later (λ a b c first then. omega (arith, first, then)) moments n since found best has is.is_one is.not_before_one is.not_before_found so

-- ---- at the end

pub all_found : (Before : ℕ → ℕ → Type 0) (moments : List (Option ℕ)) (n : ℕ) (found : ℕ × ℕ) → length moments ≤ n → IsFound Before moments n (Some found)
    → (since : ℕ) × Has moments found.0 since × ((i other : ℕ) → Has moments i other → Before since other)
all_found Before moments n found within so = (
  found.1,
  so.0,
  λ i other has.
      let less = slice_get_within moments i (Some other) has in
      so.1 i other (omega (arith, less, within)) has,
)

pub none_found : (Before : ℕ → ℕ → Type 0) (moments : List (Option ℕ)) (n : ℕ) → length moments ≤ n → IsFound Before moments n None → HasNone moments
none_found Before moments n within so slot since has =
    let less = slice_get_within moments slot (Some since) has in
    so slot since (omega (arith, less, within)) has

-- ---- the moments of doors

pub moment_at : {A : Type 0} (f : A → Option ℕ) (xs : List A) (i : ℕ) (x : A) (m : Option ℕ) → i < length xs → x ≡ slice_index_or xs i x → m ≡ f x → slice_get (map f xs) i ≡ Some m
moment_at f xs i x m less is m_is = slice_get-map f xs i ∙ ap (option_map f) (slice_get_read xs (length xs) i x refl less is) ∙ ap Some (sym m_is)

pub moments_within : {A : Type 0} (f : A → Option ℕ) (xs : List A) (n : ℕ) → length xs ≤ n → length (map f xs) ≤ n
moments_within f xs n within = subst (λ k. k ≤ n) (sym (length-map xs f)) within
