-- The curves that a caller names.
use Rattle.ts_curve.specs.Curves.{Curve as Parameters, curve_p256, curve_p384, curve_p521}
use Rattle.ts_ecdsa.specs.declared.curve.Curve.{Curve}
use Rattle.ts_ecdsa.specs.declared.curve.Curve.TheVariants.{P256, P384, P521}

-- the domain parameters of a curve (SP 800-186 3.2.1)
abbrev pub curve_of : Curve → Parameters
curve_of P256 = curve_p256
curve_of P384 = curve_p384
curve_of P521 = curve_p521
