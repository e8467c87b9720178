-- From one condition to the next.
use Rattle.std.proofs.Common.{ℕ, suc, ◌<◌, sym, subst, arith, inl, inr}
use Rattle.std.proofs.lemmas.Bool.{cases_order}
use Rattle.ts_path.specs.Conditions.{Site, Meets}
use Rattle.ts_reason.specs.Conditions.{Condition, number_of}
use Rattle.ts_path.specs.inside.Judging.{MeetsBelow}
use Rattle.ts_reason.proofs.Numbers.{one_number, positive, bounded}

none_between : (m k : ℕ) → m < k → k < suc m → ⊥
none_between m k a b = omega (arith, a, b)

-- no condition comes before the first
pub begin : (x : Site) → MeetsBelow 1 x
unfolding MeetsBelow
begin x k low = absurd (none_between 0 (number_of k) (positive k) low)

-- a condition that is met, after those before it
pub next : (x : Site) (m : Condition) → MeetsBelow (number_of m) x → Meets m x → MeetsBelow (suc (number_of m)) x
unfolding MeetsBelow
next x m before is k low =
    elim (cases_order (number_of k) (number_of m)) [
      | inl same ↦ subst (λ (c : Condition). Meets c x) (one_number m k (sym same)) is
      | inr other ↦ elim other [ inl lt ↦ before k lt | inr gt ↦ absurd (none_between (number_of m) (number_of k) gt low) ]
    ]

-- all conditions
pub all : (x : Site) → MeetsBelow 19 x → (k : Condition) → Meets k x
unfolding MeetsBelow
all x met k = met k (bounded k)

pub met : (x : Site) (n : ℕ) → MeetsBelow n x → (k : Condition) → number_of k < n → Meets k x
unfolding MeetsBelow
met x n below k low = below k low
