use Rattle.std.proofs.Common.{sym, subst}
use Rattle.std.specs.Prelude.{codes}
use Rattle.std.proofs.lemmas.Result.{on_ok_weaker}
use Rattle.ts_cert.specs.CertView.{cert_in}
use Rattle.ts_explain.specs.Why.{IsOfMoment, IsWhy}
use Rattle.ts_explain.proofs.words.write_why.Goals as goal

pub returns-in-TooEarly : goal.returns-in-TooEarly
returns-in-TooEarly c =
    on_ok_weaker c.write_validity.result
    (λ m. (
      m.0,
      subst (λ r. IsWhy (cert_in c.args.cert.now) r m.0) (sym c.in-TooEarly.is)
          (subst (λ v. IsOfMoment (codes "is not valid before ") v.not_before.moment m.0) c.validity-validity.ensures m.1),
      m.2,
    ))
    c.write_validity.ensures

pub returns-in-Expired : goal.returns-in-Expired
returns-in-Expired c =
    on_ok_weaker c.write_validity-in-Expired.result
    (λ m. (
      m.0,
      subst (λ r. IsWhy (cert_in c.args.cert.now) r m.0) (sym c.in-Expired.is)
          (subst (λ v. IsOfMoment (codes "expired after ") v.not_after.moment m.0) c.validity-validity.ensures m.1),
      m.2,
    ))
    c.write_validity-in-Expired.ensures
