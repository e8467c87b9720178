use Rattle.ts_sync.proofs.Plans.{keep_anchors, keep_crls}
use Rattle.ts_sync.proofs.laws.plans_keep.Goals as goal

pub returns-clause-anchors : goal.returns-clause-anchors
returns-clause-anchors c = keep_anchors

pub returns-clause-crls : goal.returns-clause-crls
returns-clause-crls c = keep_crls
