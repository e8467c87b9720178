use Rattle.std.proofs.Common.{◌≡◌, ◌<◌, ◌+◌, ◌*◌, ◌^◌, sym, ap, ◌∙◌, inl, inr, arith}
use Rattle.std.proofs.lemmas.Bool.{cases_eq, ne_eqb, eq-eqb}
use Rattle.ts_curve.specs.Four.{number4}
use Rattle.ts_curve.proofs.Bits.{shift_step, shift_end, pow_pos}
use Rattle.ts_eddsa.specs.Points.{double, multiple}
use Rattle.ts_eddsa.specs.inside.Addend.{sum_by}
use Rattle.ts_eddsa.proofs.Multiple.{multiple_even, multiple_odd, multiple_none}
use Rattle.ts_eddsa.proofs.point.EdwardsPoint.multiple.Goals as goal

pub loop-i-init : goal.loop-i-init
loop-i-init c = record {
  rest = λ h. absurd (omega (arith, h));
  total = (0, omega arith, c.neutral-total.ensures ∙ sym (multiple_none 0 c.args.self.now));
}

pub loop-i-preserved : goal.loop-i-preserved
loop-i-preserved c =
    let inv = c.loop-i.invariant.total in
    let h = inv.0 in
    let i = c.loop-i._i in
    let q = c.args.self.now in
    let bit = c.doubled-bit.result.1 in
    let e = shift_step (number4 c.args.k.now) i h (2 ^ 256) (number4 c.loop-i.rest) bit
    (number4 c.doubled-bit.result.0) inv.1 c.doubled-bit.ensures.sum in
    record {
      rest = λ _. c.doubled-bit.ensures.below;
      total = (
        2 * h + bit,
        e,
        elim (cases_eq bit 1) [
          | inl one ↦
              c.step.ensures.odd (eq-eqb bit 1 one)
              ∙ ap (λ v. sum_by (double v) c.addend-addend.result) inv.2
              ∙ ap (λ v. sum_by (double (multiple i h q)) v) c.addend-addend.ensures
              ∙ sym (multiple_odd i h (2 * h + bit) q (ap (λ v. 2 * h + v) one))
          | inr other ↦
              c.step.ensures.even (ne_eqb bit 1 other)
              ∙ ap double inv.2
              ∙ sym (multiple_even i h (2 * h + bit) q
              (let zero : bit ≡ 0 = omega (arith, c.doubled-bit.ensures.bit, other) in
              omega (arith, zero)))
        ],
      );
    }

pub returns : goal.returns
returns c =
    let inv = c.loop-i.invariant.total in
    let i = c.loop-i._i in
    let k = number4 c.args.k.now in
    let q = c.args.self.now in
    let last : i ≡ 256 = omega arith in
    let some : 0 < i = omega (arith, last) in
    let e : k * 2 ^ 256 ≡ inv.0 * 2 ^ 256 + number4 c.loop-i.rest =
    ap (λ v. k * 2 ^ v) (sym last) ∙ inv.1 in
    let whole = shift_end k inv.0 (2 ^ 256) (number4 c.loop-i.rest) (pow_pos 256)
    (c.loop-i.invariant.rest some) e in
    inv.2 ∙ ap (λ v. multiple v inv.0 q) last ∙ ap (λ v. multiple 256 v q) whole
