use Rattle.std.proofs.Common.{◌∙◌, ap, length, sym}
use Rattle.ts_synod.specs.Log.{prefix}
use Rattle.ts_log.proofs.Places.{learned_put}
use Rattle.ts_log.proofs.learned.LearnedCommands.put.Goals as goal

pub invariant_of-self : goal.invariant_of-self
invariant_of-self g c =
    let a = c.args.self.now in
    let e = learned_put a.commands c.put_at.new.map c.args.position c.args.command c.put_at.ensures in
    record { counted = c.requires.count ∙ ap (λ f. length (prefix f)) (sym e) }
