use Rattle.std.proofs.Common.{sym}
use Rattle.ts_name.specs.SubtreeView.{subtree_in}
use Rattle.ts_answer.proofs.Bases.{is_base}
use Rattle.ts_answer.proofs.parts.subtree_of.Goals as goal

pub returns-in-Ok-clause-read : goal.returns-in-Ok-clause-read
returns-in-Ok-clause-read c = (sym c.in-Ok.ensures.fault, is_base c.args.octets.now (subtree_in c.in-Ok.subtree) c.in-Ok.ensures.found)
