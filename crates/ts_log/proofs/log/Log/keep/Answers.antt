use Rattle.std.proofs.Common.{◌≡◌, ◌∙◌, ◌++◌, false, Some, is_some, ap, sym, subst}
use Rattle.ts_synod.specs.Lists.{update_at}
use Rattle.ts_synod.specs.Force.{log_of}
use Rattle.ts_log.specs.Steps.{IsChangeOf, received_after}
use Rattle.ts_log.proofs.Facts.{log_learns}
use Rattle.ts_log.proofs.log.Log.keep.Goals as goal

pub returns-in-Receive-clause-received : goal.returns-in-Receive-clause-received
returns-in-Receive-clause-received g c = c.put.ensures ∙ ap (received_after c.args.self.now) (sym c.in-Receive.is)

pub returns-clause-received : goal.returns-clause-received
returns-clause-received g c = c.forget.ensures ∙ ap (received_after c.args.self.now) (sym c.in-Learn.is)

pub returns-clause-state : goal.returns-clause-state
returns-clause-state g c = λ facts h.
    let a = c.args.self.now in
    let p = c.in-Learn.position in
    let is = subst (λ change. IsChangeOf a change c.args.step.facts.items) c.in-Learn.is c.requires in
    let new : is_some (log_of facts p) ≡ false = subst (λ (f : _). is_some (f p) ≡ false) h is.1 in
    c.put-in-Learn.ensures ∙ ap (λ f. update_at f p (Some c.in-Learn.command)) h ∙ log_learns facts p c.in-Learn.command new ∙ ap (λ more. log_of (facts ++ more)) (sym is.0)
