use Rattle.std.proofs.Common.{◌≡◌, false, is_some, sym, subst}
use Rattle.ts_log.specs.Log.{learned_of}
use Rattle.ts_log.proofs.log.Log.on_give.Goals as goal

pub learn_given-requires-clause-new : goal.learn_given-requires-clause-new
learn_given-requires-clause-new g c =
    let new : is_some (learned_of c.args.self.now c.args.position) ≡ false = cc in
    subst (λ f. is_some (f c.args.position) ≡ false) (sym c.reserve.ensures.same) new
