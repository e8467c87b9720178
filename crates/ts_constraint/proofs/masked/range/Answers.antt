use Rattle.std.proofs.Common.{◌≡◌, ℕ, ◌*◌, ◌^◌, ◌<◌, length, subst, arith}
use Rattle.std.proofs.lemmas.Nat.{and_le_r}
use Rattle.ts_constraint.proofs.Numbers.{other-length, within-bits}
use Rattle.ts_constraint.proofs.masked.range.Goals as goal

pub returns-then-octets-size-clause-found : goal.returns-then-octets-size-clause-found
returns-then-octets-size-clause-found c = λ address o a. other-length address c.args.octets.now c.args.size a c.if-octets-size.true

pub returns-clause-found : goal.returns-clause-found
returns-clause-found c = λ address o a.
    within-bits address c.args.octets.now c.split_at.result.0.now c.split_at.result.1.now
    c.args.size c.number.result c.number-mask.result o (λ i. omega (arith, c.type_inv.octets i)) a
    c.if-octets-size.false
    c.split_at.ensures.front c.split_at.ensures.back c.number.ensures.value c.number-mask.ensures.value

pub returns-clause-bound : goal.returns-clause-bound
returns-clause-bound c =
    let n : length c.split_at.result.1.now ≡ c.args.size = omega (arith, c.split_at.ensures.back_len, c.if-octets-size.false) in
    let mask : c.number-mask.result < 2 ^ (8 * c.args.size) = subst (λ (k : ℕ). c.number-mask.result < 2 ^ (8 * k)) n c.number-mask.ensures.bound in
    (omega (arith, mask, and_le_r c.number.result c.number-mask.result), mask)
