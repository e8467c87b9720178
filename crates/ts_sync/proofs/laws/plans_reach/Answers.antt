use Rattle.ts_sync.proofs.Plans.{reach_anchors, reach_crls}
use Rattle.ts_sync.proofs.laws.plans_reach.Goals as goal

pub returns-clause-anchors : goal.returns-clause-anchors
returns-clause-anchors c = reach_anchors

pub returns-clause-crls : goal.returns-clause-crls
returns-clause-crls c = reach_crls
