use Rattle.ts_make.proofs.NameForms.{kind-oid}
use Rattle.ts_make.proofs.laws.attribute_types.Goals as goal

pub returns : goal.returns
returns c = kind-oid
