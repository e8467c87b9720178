use Rattle.ts_answer.proofs.Borrowed.{id_there}
use Rattle.ts_answer.proofs.verdicts.id_at.Goals as goal

pub returns : goal.returns
returns c = id_there c.args.anchors.now c.args.number c.index-anchors-number.result c.requires
