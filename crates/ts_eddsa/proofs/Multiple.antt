-- One more bit of a multiple, and the sum by what of the second point is computed once.
use Rattle.std.proofs.Common.{◌≡◌, ℕ, ◌+◌, ◌*◌, ◌/◌, ◌%◌, refl, sym, ◌∙◌, add-one, arith}
use Rattle.ts_eddsa.specs.Points.{Point, neutral, double, sum, multiple}
use Rattle.ts_eddsa.specs.inside.Addend.{addend_of, sum_by}

pub sum_is : (q r : Point) → sum_by q (addend_of r) ≡ sum q r
unfolding sum sum_by
sum_is q r = refl

pub multiple_even : (i h k : ℕ) (q : Point) → k ≡ 2 * h
    → multiple (i + 1) k q ≡ double (multiple i h q)
unfolding multiple
multiple_even i h k q e =
    let half : k / 2 ≡ h = omega arith in
    let low : k % 2 ≡ 0 = omega arith in
    rw (add-one, half, low) refl

odd : (i h k : ℕ) (q : Point) → k ≡ 2 * h + 1
    → multiple (i + 1) k q ≡ sum (double (multiple i h q)) q
unfolding multiple
odd i h k q e =
    let half : k / 2 ≡ h = omega arith in
    let low : k % 2 ≡ 1 = omega arith in
    rw (add-one, half, low) refl

pub multiple_odd : (i h k : ℕ) (q : Point) → k ≡ 2 * h + 1
    → multiple (i + 1) k q ≡ sum_by (double (multiple i h q)) (addend_of q)
multiple_odd i h k q e = odd i h k q e ∙ sym (sum_is (double (multiple i h q)) q)

pub multiple_none : (k : ℕ) (q : Point) → multiple 0 k q ≡ neutral
unfolding multiple
multiple_none k q = refl
