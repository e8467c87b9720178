use Rattle.std.proofs.Common.{◌≡◌, ◌<◌, ◌+◌, ◌*◌, ◌-◌, ◌^◌, eqb, sym, ap, ◌∙◌, refl, arith}
use Rattle.ts_curve.specs.Points.{joint_multiple, double, with_bits}
use Rattle.ts_curve.proofs.Bits.{shift_step, shift_end, pow_pos}
use Rattle.ts_curve.proofs.Multiple.{joint_step, joint_none}
use Rattle.ts_curve.proofs.point.CurvePoint.joint_multiple.Goals as goal

pub loop-i-init : goal.loop-i-init
loop-i-init g c =
    let p = g.M.Modulus.prime in
    record {
      rest_u = λ h. absurd (omega (arith, h));
      rest_v = λ h. absurd (omega (arith, h));
      multiple = (
        0,
        0,
        omega arith,
        omega arith,
        c.infinity-total.ensures ∙ sym (joint_none p (p - 3) 0 0 c.args.self.now c.args.other.now),
      );
    }

pub loop-i-preserved : goal.loop-i-preserved
loop-i-preserved g c =
    let p = g.M.Modulus.prime in
    let l = g.L.Limbs in
    let inv = c.loop-i.invariant.multiple in
    let h = inv.0 in
    let j = inv.1 in
    let i = c.loop-i._i in
    let f = c.args.self.now in
    let q = c.args.other.now in
    let b = c.doubled-next_u.result.1 in
    let d = c.doubled-next_v.result.1 in
    let eu = shift_step (l.number c.args.u.now) i h (2 ^ l.BITS) (l.number c.loop-i.rest_u) b
    (l.number c.doubled-next_u.result.0) inv.2 c.doubled-next_u.ensures.sum in
    let ev = shift_step (l.number c.args.v.now) i j (2 ^ l.BITS) (l.number c.loop-i.rest_v) d
    (l.number c.doubled-next_v.result.0) inv.3 c.doubled-next_v.ensures.sum in
    record {
      rest_u = λ _. c.doubled-next_u.ensures.below;
      rest_v = λ _. c.doubled-next_v.ensures.below;
      multiple = (
        2 * h + b,
        2 * j + d,
        eu,
        ev,
        (rw (c.addend-g.ensures, c.addend-q.ensures) at c.step.ensures)
            ∙ ap (λ k. with_bits p (p - 3) (eqb b 1) (eqb d 1) f q (double p (p - 3) k)) inv.4
            ∙ sym (joint_step p (p - 3) i h j (2 * h + b) (2 * j + d) b d f q
            c.doubled-next_u.ensures.bit c.doubled-next_v.ensures.bit refl refl),
      );
    }

pub returns : goal.returns
returns g c =
    let p = g.M.Modulus.prime in
    let l = g.L.Limbs in
    let inv = c.loop-i.invariant.multiple in
    let i = c.loop-i._i in
    let u = l.number c.args.u.now in
    let v = l.number c.args.v.now in
    let f = c.args.self.now in
    let q = c.args.other.now in
    let last : i ≡ l.BITS = omega arith in
    let some : 0 < i = omega (arith, last, g.met.L.Limbs.has_bits) in
    let eu : u * 2 ^ l.BITS ≡ inv.0 * 2 ^ l.BITS + l.number c.loop-i.rest_u =
    ap (λ k. u * 2 ^ k) (sym last) ∙ inv.2 in
    let ev : v * 2 ^ l.BITS ≡ inv.1 * 2 ^ l.BITS + l.number c.loop-i.rest_v =
    ap (λ k. v * 2 ^ k) (sym last) ∙ inv.3 in
    let whole_u = shift_end u inv.0 (2 ^ l.BITS) (l.number c.loop-i.rest_u) (pow_pos l.BITS)
    (c.loop-i.invariant.rest_u some) eu in
    let whole_v = shift_end v inv.1 (2 ^ l.BITS) (l.number c.loop-i.rest_v) (pow_pos l.BITS)
    (c.loop-i.invariant.rest_v some) ev in
    inv.4 ∙ ap (λ k. joint_multiple p (p - 3) k inv.0 inv.1 f q) last
    ∙ ap (λ k. joint_multiple p (p - 3) l.BITS k inv.1 f q) whole_u
    ∙ ap (λ k. joint_multiple p (p - 3) l.BITS u k f q) whole_v
