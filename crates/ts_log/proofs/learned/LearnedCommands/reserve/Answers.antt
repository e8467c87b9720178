use Rattle.std.proofs.Common.{◌∙◌, ap, length, sym}
use Rattle.ts_synod.specs.Log.{prefix}
use Rattle.ts_log.proofs.learned.LearnedCommands.reserve.Goals as goal

pub invariant_of-self : goal.invariant_of-self
invariant_of-self g c = record { counted = c.args.self.now.counted ∙ ap (λ f. length (prefix f)) (sym c.reserve_in.ensures.same) }
