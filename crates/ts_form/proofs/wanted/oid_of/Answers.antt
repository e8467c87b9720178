-- What is refused is no dotted form.
use Rattle.std.proofs.Common.{◌≡◌, ◌∙◌, refl, sym, ap, Err}
use Rattle.ts_der.specs.declared.oid_text.OidTextError.TheVariants.{Form}
use Rattle.ts_form.proofs.wanted.oid_of.Goals as goal

pub returns-in-Ok-clause-found : goal.returns-in-Ok-clause-found
returns-in-Ok-clause-found c = record { written = sym c.in-Ok.ensures.found; valid = c.in-Ok.ensures.valid }

pub returns-in-Err-Form-clause-refused : goal.returns-in-Err-Form-clause-refused
returns-in-Err-Form-clause-refused c =
    let form : c.from_text.result ≡ Err Form = c.in-Err-Form.is ∙ ap Err c.in-Err-Form.field-0-is in
    (refl, λ content octets is. c.from_text.ensures.form form content octets is.valid is.written)
