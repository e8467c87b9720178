-- The question of the request is asked.
use Rattle.std.proofs.Common.{Ok, Result, subst}
use Rattle.std.proofs.Math.Facts.{to_z-of_z}
use Rattle.ts_api.specs.Asking.{IsAskedBy}
use Rattle.ts_api.specs.declared.asking.AskedQuestion.{AskedQuestion}
use Rattle.ts_api.specs.declared.asking.NoQuestion.{NoQuestion}
use Rattle.ts_site.proofs.Begun.{begun}
use Rattle.ts_site.proofs.verifying.begin_verdict.Goals as goal

pub returns-in-Ok : goal.returns-in-Ok
returns-in-Ok c =
    let target = c.args.request.now.target.items in
    let body = c.args.request.now.body.items in
    let asked = simp (to_z-of_z, c.ranges.now) at c.in_ok-asked.ensures in
    let by = subst (λ (found : Result AskedQuestion NoQuestion). IsAskedBy target body c.args.now found) c.in-Ok.is asked in
    begun c.ask_question.result c.args.route target body c.args.now (Ok c.in-Ok.asked) by c.ask_question.ensures
