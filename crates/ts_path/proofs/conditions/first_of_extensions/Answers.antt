-- The first critical extension that is not processed.
use Rattle.std.proofs.Common.{◌≡◌, Option, Some, None, sym, ap, ◌∙◌}
use Rattle.ts_cert.specs.Certificate.{Certificate}
use Rattle.ts_path.specs.Extensions.{first_refused}
use Rattle.ts_path.specs.Conditions.{Meets}
use Rattle.ts_reason.specs.Conditions.{critical_extension}
use Rattle.ts_path.proofs.Steps.{next}
use Rattle.ts_path.proofs.conditions.first_of_extensions.Goals as goal

is_some : {T : Type 0} (o : Option T) (x : T) → o ≡ Some x → o ≡ None → ⊥
is_some o x a b = cc (sym a ∙ b)

pub returns-in-Some : goal.returns-in-Some
unfolding Meets
returns-in-Some c = λ x same before.
    let e = ap (λ (k : Certificate). first_refused k.tbsCertificate) same ∙ sym c.in-Some.ensures in
    record { fails = λ is. is_some _ _ e is; first = before; details = e }

pub returns-in-None : goal.returns-in-None
unfolding Meets
returns-in-None c = λ x same before.
    next x critical_extension before (ap (λ (k : Certificate). first_refused k.tbsCertificate) same ∙ sym c.in-None.ensures)
