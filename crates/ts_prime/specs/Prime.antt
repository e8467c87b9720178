-- Primes, and what Fermat's theorem says of one.
use Rattle.std.specs.Prelude.{◌≡◌, ◌≢◌, ℕ, ◌-◌, ◌*◌, ◌%◌, ◌^◌, ◌<◌, ◌⊎◌}

-- p is a product of two numbers only if one of them is 1
pub record IsPrime (p : ℕ) : Type 0 where
  pub above : 1 < p
  pub factors : (a b : ℕ) → a * b ≡ p → (a ≡ 1) ⊎ (b ≡ 1)

-- Fermat's theorem at p
pub record IsFermat (p : ℕ) : Type 0 where
  pub above : 1 < p
  pub power : (a : ℕ) → a % p ≢ 0 → a ^ (p - 1) % p ≡ 1
