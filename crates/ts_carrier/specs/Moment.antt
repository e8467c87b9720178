-- Moments, in milliseconds, and the time that is left until one.
use Rattle.std.specs.Prelude.{ℕ, ◌+◌, ◌-◌, ◌^◌, min}

-- so many milliseconds later: at most the greatest moment
abbrev pub later : ℕ → ℕ → ℕ
later now time = min (now + time) (2 ^ 64 - 1)

-- how long it is until a moment, at most so long
abbrev pub time_until : ℕ → ℕ → ℕ → ℕ
time_until moment now longest = min (moment - now) longest
