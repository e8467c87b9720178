-- Which calls of a disk in memory fail because a test wants it so: each one after a fuse, and one
-- alone.
use Rattle.std.specs.Prelude.{ℕ, Bool, false, min, ◌+◌, ◌-◌, ◌^◌, ◌||◌, Option, Some, None, nat_lt}
use Rattle.std.specs.Prelude.{nat_eq}

-- the calls made, how many pass, and the one that fails, all counted from the first call and up to
-- 2^64 - 1
pub record Plan : Type 0 where
  pub made : ℕ
  pub passing : Option ℕ
  pub fails_at : Option ℕ

-- a sum that stays at its last value
abbrev pub up_to_last : ℕ → ℕ → ℕ
up_to_last a b = min (a + b) (2 ^ 64 - 1)

abbrev pub is_past : Option ℕ → ℕ → Bool
is_past None call = false
is_past (Some passing) call = nat_lt passing call

abbrev pub is_at : Option ℕ → ℕ → Bool
is_at None call = false
is_at (Some k) call = nat_eq k call

-- the next call fails
abbrev pub is_refused : Plan → Bool
is_refused plan = is_past plan.passing (up_to_last plan.made 1)
    || is_at plan.fails_at (up_to_last plan.made 1)

-- one call more is made
abbrev pub one_call_more : Plan → Plan
one_call_more plan = record {
  made = up_to_last plan.made 1;
  passing = plan.passing;
  fails_at = plan.fails_at;
}
