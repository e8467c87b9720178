use Rattle.std.proofs.Common.{◌≡◌, ◌∙◌, ◌++◌, ◌∷◌, [], true, false, is_some, Some, ap, subst}
use Rattle.ts_synod.specs.declared.message.Fact.TheVariants.{Chosen}
use Rattle.ts_synod.specs.Lists.{update_at}
use Rattle.ts_synod.specs.Force.{log_of}
use Rattle.ts_log.specs.Log.{learned_of}
use Rattle.ts_log.proofs.Facts.{log_known, log_learns}
use Rattle.ts_log.proofs.log.Log.recover_chosen.Goals as goal

pub returns-then-is_learned-clause-state : goal.returns-then-is_learned-clause-state
returns-then-is_learned-clause-state g c = λ facts h.
    let p = c.args.position in
    let known : is_some (learned_of c.args.self.now p) ≡ true = cc in
    h ∙ log_known facts p c.args.command.now (subst (λ f. is_some (f p) ≡ true) h known)

pub returns-clause-state : goal.returns-clause-state
returns-clause-state g c = λ facts h.
    let p = c.args.position in
    let copy = c.in_ok-copy.copy in
    let new : is_some (learned_of c.args.self.now p) ≡ false = cc in
    c.put.ensures ∙ ap (λ f. update_at f p (Some copy)) (c.reserve.ensures.same ∙ h)
    ∙ log_learns facts p copy (subst (λ f. is_some (f p) ≡ false) h new)
    ∙ ap (λ d. log_of (facts ++ Chosen p d ∷ [])) c.in_ok-copy.ensures.copy
