-- The conditions on a certificate that issues another.
use Rattle.std.proofs.Common.{refl, sym, ◌∙◌}
use Rattle.std.proofs.lemmas.Bool.{false≢true}
use Rattle.ts_path.specs.Conditions.{Meets}
use Rattle.ts_reason.specs.Conditions.{not_ca, path_length, key_usage}
use Rattle.ts_path.proofs.Steps.{next}
use Rattle.ts_path.proofs.state.State.first_of_issuer.Goals as goal

pub returns-then-not-is_ca : goal.returns-then-not-is_ca
unfolding Meets
returns-then-not-is_ca c = λ asked above before. record { fails = λ is. false≢true (c.if-not-is_ca.ensures ∙ is refl); first = before; details = tt }

pub returns-then-not-may_go_on : goal.returns-then-not-may_go_on
unfolding Meets
returns-then-not-may_go_on c = λ asked above before. record {
  fails = λ is. false≢true (c.if-not-may_go_on.ensures ∙ is refl);
  first = next _ not_ca before (λ _. sym c.if-not-is_ca.ensures);
  details = tt;
}

pub returns-then-not-may_sign : goal.returns-then-not-may_sign
unfolding Meets
returns-then-not-may_sign c = λ asked above before. record {
  fails = λ is. false≢true (c.if-not-may_sign.ensures ∙ is refl);
  first = next _ path_length (next _ not_ca before (λ _. sym c.if-not-is_ca.ensures)) (λ _. sym c.if-not-may_go_on.ensures);
  details = tt;
}

pub returns : goal.returns
unfolding Meets
returns c = λ asked above before.
    next _ key_usage (next _ path_length (next _ not_ca before (λ _. sym c.if-not-is_ca.ensures)) (λ _. sym c.if-not-may_go_on.ensures)) (λ _. sym c.if-not-may_sign.ensures)
