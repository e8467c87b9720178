use Rattle.ts_curve.proofs.Double.{double_right}
use Rattle.ts_curve.proofs.Add.{add_right}
use Rattle.ts_curve.proofs.laws.jacobian_coordinates.Goals as goal

pub returns-clause-double : goal.returns-clause-double
returns-clause-double c = double_right

pub returns-clause-sum : goal.returns-clause-sum
returns-clause-sum c = add_right
