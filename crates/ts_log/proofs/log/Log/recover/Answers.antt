use Rattle.std.proofs.Common.{◌∙◌, ◌++◌, ◌∷◌, [], sym, subst, refl}
use Rattle.ts_synod.specs.declared.message.Fact.TheVariants.{Promised, Took, Used}
use Rattle.ts_log.specs.Log.{StandsFor}
use Rattle.ts_log.proofs.Facts.{log_stays}
use Rattle.ts_log.proofs.log.Log.recover.Goals as goal

pub returns-in-Used-clause-state : goal.returns-in-Used-clause-state
returns-in-Used-clause-state g c = λ facts h. subst (λ f. StandsFor c.args.self.now (facts ++ f ∷ [])) (sym c.in-Used.is) (h ∙ log_stays facts (Used c.in-Used.round) (λ p. refl))

pub returns-in-Promised-clause-state : goal.returns-in-Promised-clause-state
returns-in-Promised-clause-state g c =
    λ facts h. subst (λ f. StandsFor c.args.self.now (facts ++ f ∷ [])) (sym c.in-Promised.is)
    (h ∙ log_stays facts (Promised c.in-Promised.position c.in-Promised.ballot) (λ p. refl))

pub returns-in-Took-clause-state : goal.returns-in-Took-clause-state
returns-in-Took-clause-state g c =
    λ facts h. subst (λ f. StandsFor c.args.self.now (facts ++ f ∷ [])) (sym c.in-Took.is)
    (h ∙ log_stays facts (Took c.in-Took.position c.in-Took.ballot c.in-Took.command) (λ p. refl))

pub returns-in_ok-recover_chosen-in-Chosen-clause-state : goal.returns-in_ok-recover_chosen-in-Chosen-clause-state
returns-in_ok-recover_chosen-in-Chosen-clause-state g c =
    λ facts h. subst (λ f. StandsFor c.recover_chosen.new.self (facts ++ f ∷ []))
    (sym c.in-Chosen.is) (c.in_ok-recover_chosen-in-Chosen.ensures.state facts h)
