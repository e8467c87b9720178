-- Both directions, from the lemmas on keys.
use Rattle.ts_path.proofs.Inheriting.{inherits, inherited, none_inherited}
use Rattle.ts_path.proofs.laws.inherited_parameters.Goals as goal

pub returns-clause-some : goal.returns-clause-some
returns-clause-some c anchor above p = (inherits anchor above p, inherited anchor above p)

pub returns-clause-none : goal.returns-clause-none
returns-clause-none c = none_inherited
