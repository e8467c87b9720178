use Rattle.std.proofs.Common.{refl}
use Rattle.ts_curve.specs.Curves.{curve_p256, curve_p384, curve_p521}
use Rattle.ts_curve.proofs.Tests.{on_curve_test}
use Rattle.ts_curve.proofs.laws.base_points.Goals as goal

pub returns-clause-p256 : goal.returns-clause-p256
returns-clause-p256 c = (on_curve_test curve_p256 curve_p256.base_x curve_p256.base_y).0 refl

pub returns-clause-p384 : goal.returns-clause-p384
returns-clause-p384 c = (on_curve_test curve_p384 curve_p384.base_x curve_p384.base_y).0 refl

pub returns-clause-p521 : goal.returns-clause-p521
returns-clause-p521 c = (on_curve_test curve_p521 curve_p521.base_x curve_p521.base_y).0 refl
