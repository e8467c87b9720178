-- The conditions on names. What the check of constraints answers is of no account where they do not bear on the certificate.
use Rattle.std.proofs.Common.{◌≡◌, refl, subst, List, Result, Ok, Err}
use Rattle.std.proofs.lemmas.Bool.{false≢true}
use Rattle.ts_name.specs.General.{GeneralName}
use Rattle.ts_cert.specs.CertView.{cert_in}
use Rattle.ts_constraint.specs.Source.{Source}
use Rattle.ts_constraint.specs.Conditions.{IsExempt, IsBoundsAnswer}
use Rattle.ts_constraint.specs.declared.fault.NameFault.{NameFault}
use Rattle.ts_constraint.proofs.Failing.{not_all}
use Rattle.ts_path.specs.Conditions.{Meets}
use Rattle.ts_reason.specs.Conditions.{issuer_name, unsupported_constraint, not_permitted, excluded}
use Rattle.ts_path.proofs.Steps.{next}
use Rattle.ts_path.proofs.state.State.first_of_names.Goals as goal

is_fault : (fault : NameFault) → (let e : Result (Unit {0}) NameFault = Err fault in e) ≡ Ok tt → ⊥
is_fault fault e = cc e

answered : (P : Type 0) (sources : List Source) (names : List GeneralName) (f g : NameFault) → f ≡ g → (¬ P → IsBoundsAnswer sources names (Err f)) → ¬ P → IsBoundsAnswer sources names (Err g)
answered P sources names f g e h bears = subst (λ (x : NameFault). IsBoundsAnswer sources names (Err x)) e (h bears)

pub returns-then-not-is_issued : goal.returns-then-not-is_issued
unfolding Meets
returns-then-not-is_issued c = λ asked above before. record { fails = λ is. false≢true (c.if-not-is_issued.ensures.1 is); first = before; details = tt }

pub returns-in-Ok : goal.returns-in-Ok
unfolding Meets
returns-in-Ok c = λ asked above before.
    next _ excluded
    (next _ not_permitted
    (next _ unsupported_constraint (next _ issuer_name before (c.if-not-is_issued.ensures.0 refl)) (λ bears. (c.in-Ok.ensures.checked bears).0))
    (λ bears. (c.in-Ok.ensures.checked bears).1))
    (λ bears. (c.in-Ok.ensures.checked bears).2)

pub returns-in-Err-Unsupported : goal.returns-in-Err-Unsupported
unfolding Meets
returns-in-Err-Unsupported c = λ asked above before. record {
  fails = λ is. let bears : ¬ (IsExempt (cert_in c.args.cert.now).tbsCertificate c.args.last) =
      λ x. is_fault _ (c.in-Err-Unsupported.ensures.exempt x) in
      (not_all _ _ _ _ (answered _ _ _ _ _ c.in-Err-Unsupported.field-0-is
      c.in-Err-Unsupported.ensures.checked bears) (is bears));
  first = next _ issuer_name before (c.if-not-is_issued.ensures.0 refl);
  details = tt;
}

pub returns-in-Err-NotPermitted : goal.returns-in-Err-NotPermitted
unfolding Meets
returns-in-Err-NotPermitted c = λ asked above before. record {
  fails = λ is. let bears : ¬ (IsExempt (cert_in c.args.cert.now).tbsCertificate c.args.last) =
      λ x. is_fault _ (c.in-Err-NotPermitted.ensures.exempt x) in
      (not_all _ _ _ _ (answered _ _ _ _ _ c.in-Err-NotPermitted.field-0-is
      c.in-Err-NotPermitted.ensures.checked bears).1 (is bears));
  first = next _ unsupported_constraint
      (next _ issuer_name before (c.if-not-is_issued.ensures.0 refl))
      (λ bears. (answered _ _ _ _ _ c.in-Err-NotPermitted.field-0-is
      c.in-Err-NotPermitted.ensures.checked bears).0);
  details = tt;
}

pub returns-in-Err-Excluded : goal.returns-in-Err-Excluded
unfolding Meets
returns-in-Err-Excluded c = λ asked above before. record {
  fails = λ is. let bears : ¬ (IsExempt (cert_in c.args.cert.now).tbsCertificate c.args.last) =
      λ x. is_fault _ (c.in-Err-Excluded.ensures.exempt x) in
      (not_all _ _ _ _ (answered _ _ _ _ _ c.in-Err-Excluded.field-0-is
      c.in-Err-Excluded.ensures.checked bears).2 (is bears));
  first =
      next _ not_permitted
      (next _ unsupported_constraint (next _ issuer_name before (c.if-not-is_issued.ensures.0 refl))
      (λ bears. (answered _ _ _ _ _ c.in-Err-Excluded.field-0-is c.in-Err-Excluded.ensures.checked
      bears).0))
      (λ bears. (answered _ _ _ _ _ c.in-Err-Excluded.field-0-is c.in-Err-Excluded.ensures.checked bears).1);
  details = tt;
}
