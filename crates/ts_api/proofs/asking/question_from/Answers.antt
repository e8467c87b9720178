-- What is asked is what the pairs say.
use Rattle.std.proofs.Math.Facts.{to_z-of_z}
use Rattle.ts_api.proofs.Bodies.{asked_from}
use Rattle.ts_api.proofs.asking.question_from.Goals as goal

pub returns-in-Ok : goal.returns-in-Ok
returns-in-Ok c =
    let asked = simp (to_z-of_z, c.ranges.now) at c.asked_of.ensures in
    asked_from c.asked_of.result _ _ _ c.in-Ok.ensures.says asked
