-- What is asked is what the request says.
use Rattle.std.proofs.Math.Facts.{to_z-of_z}
use Rattle.ts_api.proofs.Bodies.{asked_by}
use Rattle.ts_api.proofs.asking.question_in.Goals as goal

pub returns-in-Ok : goal.returns-in-Ok
returns-in-Ok c =
    let asked = simp (to_z-of_z, c.ranges.now) at c.asked_of.ensures in
    asked_by c.asked_of.result c.args.request.now.target.items c.args.request.now.body.items _ _ c.in-Ok.ensures.says asked
