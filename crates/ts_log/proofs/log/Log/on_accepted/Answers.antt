use Rattle.std.proofs.Common.{◌≡◌, false, is_some, sym, subst}
use Rattle.ts_log.specs.Log.{learned_of}
use Rattle.ts_log.specs.Steps.{Makes}
use Rattle.ts_log.proofs.Rule.{counts}
use Rattle.ts_log.proofs.log.Log.on_accepted.Goals as goal

pub returns-clause-step : goal.returns-clause-step
returns-clause-step g c =
    let a = c.args.self.now in
    let new : is_some (learned_of a c.args.position) ≡ false = cc in
    subst (Makes c.reserve.new.self c.in_ok-step.step)
    (counts a c.reserve.new.self c.args.from c.args.position c.args.ballot c.args.command.now
    c.in_ok-reserve.ensures.same new) c.in_ok-step.ensures.step

pub count_vote-requires-clause-new : goal.count_vote-requires-clause-new
count_vote-requires-clause-new g c =
    let new : is_some (learned_of c.args.self.now c.args.position) ≡ false = cc in
    subst (λ f. is_some (f c.args.position) ≡ false) (sym c.reserve.ensures.same.learned) new
