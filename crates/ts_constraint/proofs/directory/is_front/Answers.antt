use Rattle.std.proofs.Common.{◌∙◌}
use Rattle.ts_constraint.proofs.DirectoryForms.{within-front}
use Rattle.ts_constraint.proofs.directory.is_front.Goals as goal

pub returns : goal.returns
returns c = within-front _ _ c.within.result c.within.ensures
