-- The first place that is preferred.
use Rattle.std.proofs.Common.{◌≡◌, ℕ, ◌+◌, ◌<◌, ◌≤◌, inl, inr, Bool, true, false, ◌&&◌, Option, Some, None, below_more, sym, arith, true≢false}
use Rattle.std.proofs.lemmas.Bool.{and_from, and_left, and_parts, and_right, cases_lt}
use Rattle.std.specs.Prelude.{is_some}
use Rattle.std.specs.Option.{option_or}
use Rattle.ts_verify.specs.Lines.{IsFirstPlace, IsPreferredPlace}

-- none passes, where none of so many does, nor any behind them
none_passes : (test : ℕ → Bool) (n : ℕ) → ((i : ℕ) → i < n → test i ≡ false) → ((i : ℕ) → n ≤ i → test i ≡ false)
    → IsFirstPlace test None
none_passes test n before behind k = elim (cases_lt k n) [ inl less ↦ before k less | inr far ↦ behind k far ]

-- ---- a search for it, before a place

-- the first place before this one that passes a test
abbrev pub IsFirstBefore : (ℕ → Bool) → ℕ → Option ℕ → Type 0
IsFirstBefore test n (Some i) = (i < n) × IsFirstPlace test (Some i)
IsFirstBefore test n None = (k : ℕ) → k < n → test k ≡ false

pub record IsSought (named signed : ℕ → Bool) (n : ℕ) (place : Option ℕ) : Type 0 where
  pub none : (k : ℕ) → k < n → (named k && signed k) ≡ false
  pub first_named : IsFirstBefore named n place

first_more : (test : ℕ → Bool) (n : ℕ) (place : Option ℕ) → test n ≡ false → IsFirstBefore test n place
    → IsFirstBefore test (n + 1) place
first_more test n None e h = below_more (λ k. test k ≡ false) n h e
first_more test n (Some i) e h = (omega (arith, h.0), h.1)

-- a place that does not pass
pub pass_place : (named signed : ℕ → Bool) (n : ℕ) (place : Option ℕ) → named n ≡ false → IsSought named signed n place
    → IsSought named signed (n + 1) place
pass_place named signed n place e s = record {
  none = below_more (λ k. (named k && signed k) ≡ false) n s.none (and_left (named n) (signed n) e);
  first_named = first_more named n place e s.first_named;
}

first_or : (test : ℕ → Bool) (n : ℕ) (place : Option ℕ) → test n ≡ true → IsFirstBefore test n place
    → IsFirstBefore test (n + 1) (option_or place (Some n))
first_or test n None e h = (omega arith, (e, h))
first_or test n (Some i) e h = (omega (arith, h.0), h.1)

-- a place that passes the first test alone
pub note_place : (named signed : ℕ → Bool) (n : ℕ) (place : Option ℕ) → named n ≡ true → signed n ≡ false
    → IsSought named signed n place → IsSought named signed (n + 1) (option_or place (Some n))
note_place named signed n place t w s = record {
  none = below_more (λ k. (named k && signed k) ≡ false) n s.none (and_right (named n) (signed n) w);
  first_named = first_or named n place t s.first_named;
}

-- a place that passes both
pub prefer_place : (named signed : ℕ → Bool) (n : ℕ) (place : Option ℕ) → named n ≡ true → signed n ≡ true
    → IsSought named signed n place → IsPreferredPlace named signed (Some n)
prefer_place named signed n place t w s = inl (and_from (named n) (signed n) t w, s.none)

-- no place is left
pub at_end : (named signed : ℕ → Bool) (n : ℕ) (place : Option ℕ) → ((k : ℕ) → n ≤ k → named k ≡ false)
    → IsSought named signed n place → IsPreferredPlace named signed place
at_end named signed n None behind s = none_passes named n s.first_named behind
at_end named signed n (Some i) behind s =
    inr (none_passes (λ k. named k && signed k) n s.none (λ k far. and_left (named k) (signed k) (behind k far)), s.first_named.1)

-- ---- what it says of the first test

pub one_passes : (named signed : ℕ → Bool) (place : Option ℕ) → is_some place ≡ true → IsPreferredPlace named signed place
    → (i : ℕ) × (named i ≡ true)
one_passes named signed (Some i) there (inl h) = (i, (and_parts (named i) (signed i) h.0).0)
one_passes named signed (Some i) there (inr h) = (i, h.1.0)
one_passes named signed None there h = absurd (true≢false (sym there))

pub none_does : (named signed : ℕ → Bool) (place : Option ℕ) → is_some place ≡ false → IsPreferredPlace named signed place
    → IsFirstPlace named None
none_does named signed (Some i) there h = absurd (true≢false there)
none_does named signed None there h = h
