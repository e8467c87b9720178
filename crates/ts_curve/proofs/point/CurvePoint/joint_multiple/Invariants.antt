use Rattle.std.proofs.Common.{◌≡◌, ℕ, ◌+◌, ◌*◌, ◌-◌, ◌^◌, ◌<◌}
use Rattle.ts_curve.specs.Points.{joint_multiple}
use Rattle.ts_curve.proofs.point.CurvePoint.joint_multiple.Given as goal

abbrev pub invariant-loop-i : goal.invariant-loop-i
invariant-loop-i g l = record {
  rest_u : 0 < l._i → g.L.Limbs.number l.rest_u < 2 ^ g.L.Limbs.BITS;
  rest_v : 0 < l._i → g.L.Limbs.number l.rest_v < 2 ^ g.L.Limbs.BITS;
  multiple : (h j : ℕ) × (g.L.Limbs.number l.u * 2 ^ l._i
      ≡ h * 2 ^ g.L.Limbs.BITS + g.L.Limbs.number l.rest_u)
      × (g.L.Limbs.number l.v * 2 ^ l._i
      ≡ j * 2 ^ g.L.Limbs.BITS + g.L.Limbs.number l.rest_v)
      × (l.total ≡ joint_multiple g.M.Modulus.prime (g.M.Modulus.prime - 3) l._i h j l.self l.other);
}
