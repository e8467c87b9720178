use Rattle.ts_eddsa.proofs.Decoded.{found, only}
use Rattle.ts_eddsa.proofs.laws.decodes_points.Goals as goal

pub returns-clause-found : goal.returns-clause-found
returns-clause-found c = found

pub returns-clause-only : goal.returns-clause-only
returns-clause-only c = only
