-- A counter that runs along the chain is the least of what the start and the bounds above leave.
use Rattle.std.proofs.Common.{◌≡◌, ℕ, ◌+◌, ◌-◌, min, List, [], ◌∷◌, Option, Some, None, refl, ap, ◌∙◌, arith}
use Rattle.ts_cert.specs.Certificate.{Certificate}
use Rattle.ts_path.specs.Counters.{counted, all_counted, with_bound, bounds, least_of, counter}
use Rattle.ts_path.specs.inside.Judging.{lowered}

min_minus : (a p b k : ℕ) → min (a - (p + k)) (b - k) ≡ min (a - p) b - k
min_minus a p b k = omega arith

fewer : (s k t : ℕ) → s - (k + t) ≡ (s - t) - k
fewer s k t = omega arith

all_left : (r : ℕ) → r - 0 ≡ r
all_left r = omega arith

swapped : (p k n : ℕ) → (p + k) + n ≡ (p + n) + k
swapped p k n = omega arith

least_first : (first : ℕ) (p k : ℕ) (bound : Option ℕ) (others less : List ℕ) → least_of (first - k) less ≡ least_of first others - k
    → least_of (first - k) (with_bound bound (p + k) less) ≡ least_of first (with_bound bound p others) - k
least_first first p k None others less e = e
least_first first p k (Some r) others less e = ap (λ (n : ℕ). min (r - (p + k)) n) e ∙ min_minus r p (least_of first others) k

-- what is left, if more have passed
passed : (bound : Certificate → Option ℕ) (first p k : ℕ) (above : List Certificate) → least_of (first - k) (bounds bound (p + k) above) ≡ least_of first (bounds bound p above) - k
passed bound first p k [] = refl
passed bound first p k (c ∷ above) =
    least_first first p k (bound c) (bounds bound (p + counted c) above) (bounds bound ((p + k) + counted c) above)
    (ap (λ (n : ℕ). least_of (first - k) (bounds bound n above)) (swapped p k (counted c)) ∙ passed bound first (p + counted c) k above)

pub counts : (bound : Certificate → Option ℕ) (start : ℕ) (c : Certificate) (above : List Certificate)
    → counter bound start (c ∷ above) ≡ lowered (counter bound start above - counted c) (bound c)
unfolding counter
counts bound start c above =
    by_bound (bound c) (ap (λ (n : ℕ). least_of n (bounds bound (0 + counted c) above)) (fewer start (counted c) (all_counted above))
    ∙ passed bound (start - all_counted above) 0 (counted c) above) where
      by_bound : (b : Option ℕ) → least_of (start - (counted c + all_counted above)) (bounds bound (0 + counted c) above) ≡ least_of (start - all_counted above) (bounds bound 0 above) - counted c
          → least_of (start - (counted c + all_counted above))
          (with_bound b 0 (bounds bound (0 + counted c) above)) ≡ lowered
          (least_of (start - all_counted above) (bounds bound 0 above) - counted c) b
      by_bound None e = e
      by_bound (Some r) e = ap (λ (n : ℕ). min n (least_of (start - (counted c + all_counted above)) (bounds bound (0 + counted c) above))) (all_left r) ∙ ap (λ (n : ℕ). min r n) e

-- before the first certificate
pub starts : (bound : Certificate → Option ℕ) (start : ℕ) → counter bound start [] ≡ start
unfolding counter
starts bound start = omega arith
