use Rattle.std.proofs.Common.{List, ap, sym, ◌∙◌}
use Rattle.std.specs.List.{find}
use Rattle.ts_extensions.specs.Extension.{Located}
use Rattle.ts_cert.specs.CertView.{cert_in}
use Rattle.ts_cert.specs.inside.AllLocated.{all_located_within}
use Rattle.ts_cert.proofs.StatedValues.{is_known, none-stands, none-found, one-found}
use Rattle.ts_cert.proofs.certificate.Cert.content.Goals as goal

pub returns-in_err-list : goal.returns-in_err-list
returns-in_err-list c = rw c.from_residual.ensures (none-stands c.args.known (cert_in c.args.self).tbsCertificate (sym c.in_err-list.ensures))

pub returns-in_err-extension : goal.returns-in_err-extension
returns-in_err-extension c =
    let within = ap (λ (xs : List Located). find (is_known c.args.known) xs) c.within.ensures in
    rw c.from_residual-in_err-extension.ensures
    (none-found c.args.known (cert_in c.args.self).tbsCertificate
    (all_located_within c.in_ok-list.list) (sym c.in_ok-list.ensures)
    (c.in_err-extension.ensures ∙ within))

pub returns : goal.returns
returns c =
    let within = ap (λ (xs : List Located). find (is_known c.args.known) xs) c.within.ensures in
    let sole = rw c.tag.ensures at c.element_within.ensures in
    rw c.ok.ensures.value
    (one-found c.args.known (cert_in c.args.self).tbsCertificate
    (all_located_within c.in_ok-list.list) (sym c.in_ok-list.ensures) c.in_ok-extension.extension
    (c.in_ok-extension.ensures ∙ within) c.element_within.result sole)
