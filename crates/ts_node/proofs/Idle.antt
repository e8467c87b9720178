-- Facts that a role doesn't look at.
use Rattle.std.proofs.Common.{◌≡◌, ◌∙◌, ◌++◌, ◌∷◌, List, [], refl, sym, ap, subst, append_assoc, arith}
use Rattle.ts_synod.specs.declared.message.Fact.{Fact}
use Rattle.ts_synod.specs.declared.message.Fact.TheVariants.{Chosen, Promised, Took, Used}
use Rattle.ts_synod.specs.Force.{log_of, round_used_by, used_round}
use Rattle.ts_synod.proofs.Same.{used_push}
use Rattle.ts_acceptor.specs.Acceptor as acceptor
use Rattle.ts_acceptor.specs.Steps as acceptor_steps
use Rattle.ts_acceptor.proofs.Stands.{stands_idle}
use Rattle.ts_acceptor.specs.declared.acceptor.Acceptor.{Acceptor}
use Rattle.ts_acceptor.specs.declared.acceptor.AcceptorChange.{AcceptorChange}
use Rattle.ts_acceptor.specs.declared.acceptor.AcceptorChange.TheVariants as changes
use Rattle.ts_log.specs.declared.log.Log.{Log}
use Rattle.ts_log.specs.declared.log.LogChange.{LogChange}
use Rattle.ts_log.specs.declared.log.LogChange.TheVariants as log_changes
use Rattle.ts_log.specs.Steps as log_steps
use Rattle.ts_log.proofs.Facts.{log_stays}
use Rattle.ts_node.specs.inside.Roles.{AllUsed}

-- the right end of a list that is known
push_nil : {A : Type 0} (xs : List A) → xs ++ [] ≡ xs
push_nil [] = refl
push_nil (x ∷ xs) = ap (λ ys. x ∷ ys) (push_nil xs)

-- rounds that were used are nothing to an acceptor
pub acceptor_used : {C : Type 0} (a : Acceptor C) (facts more : List (Fact C)) → AllUsed more → acceptor.StandsFor a facts → acceptor.StandsFor a (facts ++ more)
acceptor_used a facts [] used h = subst (acceptor.StandsFor a) (sym (push_nil facts)) h
acceptor_used a facts (Used r ∷ more) used h =
    subst (acceptor.StandsFor a) (append_assoc facts (Used r ∷ []) more)
    (acceptor_used a (facts ++ Used r ∷ []) more used
    (stands_idle a facts (Used r) h (λ p. refl) (λ p. refl)))
acceptor_used a facts (Promised p b ∷ more) used h = absurd used
acceptor_used a facts (Took p b c ∷ more) used h = absurd used
acceptor_used a facts (Chosen p c ∷ more) used h = absurd used

-- and to a log
pub log_used : {C : Type 0} (facts more : List (Fact C)) → AllUsed more → log_of facts ≡ log_of (facts ++ more)
log_used facts [] used = ap log_of (sym (push_nil facts))
log_used facts (Used r ∷ more) used = log_stays facts (Used r) (λ p. refl) ∙ log_used (facts ++ Used r ∷ []) more used ∙ ap log_of (append_assoc facts (Used r ∷ []) more)
log_used facts (Promised p b ∷ more) used = absurd used
log_used facts (Took p b c ∷ more) used = absurd used
log_used facts (Chosen p c ∷ more) used = absurd used

no_round : {C : Type 0} (facts : List (Fact C)) (f : Fact C) → round_used_by f ≡ 0 → used_round facts ≡ used_round (facts ++ f ∷ [])
no_round facts f none = let e = used_push facts f in omega arith

-- what an acceptor keeps is nothing to a proposer
pub proposer_accepts : {C : Type 0} (a : Acceptor C) (change : AcceptorChange C) (facts more : List (Fact C)) → acceptor_steps.IsChangeOf a change more → used_round facts ≡ used_round (facts ++ more)
proposer_accepts a changes.Nothing facts more is = ap used_round (sym (push_nil facts)) ∙ ap (λ ms. used_round (facts ++ ms)) (sym is)
proposer_accepts a (changes.Promise p b) facts more is = no_round facts (Promised p b) refl ∙ ap (λ ms. used_round (facts ++ ms)) (sym is.0)
proposer_accepts a (changes.Take p b c) facts more is = no_round facts (Took p b c) refl ∙ ap (λ ms. used_round (facts ++ ms)) (sym is.0)

-- and to a log
pub log_accepts : {C : Type 0} (a : Acceptor C) (change : AcceptorChange C) (facts more : List (Fact C)) → acceptor_steps.IsChangeOf a change more → log_of facts ≡ log_of (facts ++ more)
log_accepts a changes.Nothing facts more is = ap log_of (sym (push_nil facts)) ∙ ap (λ ms. log_of (facts ++ ms)) (sym is)
log_accepts a (changes.Promise p b) facts more is = log_stays facts (Promised p b) (λ q. refl) ∙ ap (λ ms. log_of (facts ++ ms)) (sym is.0)
log_accepts a (changes.Take p b c) facts more is = log_stays facts (Took p b c) (λ q. refl) ∙ ap (λ ms. log_of (facts ++ ms)) (sym is.0)

-- what a log keeps is nothing to a proposer
pub proposer_learns : {C : Type 0} (log : Log C) (change : LogChange C) (facts more : List (Fact C)) → log_steps.IsChangeOf log change more → used_round facts ≡ used_round (facts ++ more)
proposer_learns log log_changes.Nothing facts more is = ap used_round (sym (push_nil facts)) ∙ ap (λ ms. used_round (facts ++ ms)) (sym is)
proposer_learns log (log_changes.Receive p a v) facts more is = ap used_round (sym (push_nil facts)) ∙ ap (λ ms. used_round (facts ++ ms)) (sym is.0)
proposer_learns log (log_changes.Learn p c n) facts more is = no_round facts (Chosen p c) refl ∙ ap (λ ms. used_round (facts ++ ms)) (sym is.0)

-- and to an acceptor
pub acceptor_learns : {C : Type 0} (a : Acceptor C) (log : Log C) (change : LogChange C)
    (facts more : List (Fact C)) → log_steps.IsChangeOf log change more → acceptor.StandsFor a facts
    → acceptor.StandsFor a (facts ++ more)
acceptor_learns a log log_changes.Nothing facts more is h = subst (λ ms. acceptor.StandsFor a (facts ++ ms)) (sym is) (subst (acceptor.StandsFor a) (sym (push_nil facts)) h)
acceptor_learns a log (log_changes.Receive p s v) facts more is h = subst (λ ms. acceptor.StandsFor a (facts ++ ms)) (sym is.0) (subst (acceptor.StandsFor a) (sym (push_nil facts)) h)
acceptor_learns a log (log_changes.Learn p c n) facts more is h = subst (λ ms. acceptor.StandsFor a (facts ++ ms)) (sym is.0) (stands_idle a facts (Chosen p c) h (λ q. refl) (λ q. refl))
