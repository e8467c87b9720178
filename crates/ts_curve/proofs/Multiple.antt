-- One more bit of each of two multiples, and bits above the highest of both.
use Rattle.std.proofs.Common.{◌≡◌, ℕ, zero, suc, ◌+◌, ◌*◌, ◌/◌, ◌%◌, ◌^◌, ◌<◌, ◌≤◌, None, false, refl}
use Rattle.std.proofs.Common.{add-one, ap, ◌∙◌, eqb, arith}
use Rattle.std.proofs.Math.Nat.{pow-zero, pow-suc, zero-add}
use Rattle.ts_curve.specs.Points.{Point, double, with_bits, joint_multiple}

pub joint_step : (p a i h j u v b c : ℕ) (g q : Point) → b ≤ 1 → c ≤ 1 → u ≡ 2 * h + b
    → v ≡ 2 * j + c → joint_multiple p a (i + 1) u v g q
    ≡ with_bits p a (eqb b 1) (eqb c 1) g q (double p a (joint_multiple p a i h j g q))
unfolding joint_multiple
joint_step p a i h j u v b c g q bb cc eu ev =
    let half_u : u / 2 ≡ h = omega arith in
    let low_u : u % 2 ≡ b = omega arith in
    let half_v : v / 2 ≡ j = omega arith in
    let low_v : v % 2 ≡ c = omega arith in
    rw (add-one, half_u, low_u, half_v, low_v) refl

pub joint_none : (p a u v : ℕ) (g q : Point) → joint_multiple p a 0 u v g q ≡ None
unfolding joint_multiple
joint_none p a u v g q = refl

nothing : (p a k : ℕ) (g q : Point) → joint_multiple p a k 0 0 g q ≡ None
unfolding joint_multiple
nothing p a zero g q = refl
nothing p a (suc k) g q =
    ap (λ t. with_bits p a false false g q (double p a t)) (nothing p a k g q)

-- bits that both multiples lack, which double infinity
pub more_bits : (p a k bits u v : ℕ) (g q : Point) → u < 2 ^ bits → v < 2 ^ bits
    → joint_multiple p a (bits + k) u v g q ≡ joint_multiple p a bits u v g q
unfolding joint_multiple
more_bits p a k zero u v g q lu lv =
    let eu : u ≡ 0 = omega (arith, pow-zero 2) in
    let ev : v ≡ 0 = omega (arith, pow-zero 2) in
    rw (eu, ev, zero-add k) (nothing p a k g q)
more_bits p a k (suc bits) u v g q lu lv =
    let more : suc bits + k ≡ suc (bits + k) = omega arith in
    let hu : u / 2 < 2 ^ bits = omega (arith, pow-suc 2 bits) in
    let hv : v / 2 < 2 ^ bits = omega (arith, pow-suc 2 bits) in
    ap (λ b. joint_multiple p a b u v g q) more
    ∙ ap (λ t. with_bits p a (eqb (u % 2) 1) (eqb (v % 2) 1) g q (double p a t))
    (more_bits p a k bits (u / 2) (v / 2) g q hu hv)
