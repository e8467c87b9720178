use Rattle.std.proofs.Common.{◌∙◌, ap, sym}
use Rattle.sha2.specs.Sha256.{sha256}
use Rattle.ts_crl.specs.ListView.{crl_in}
use Rattle.ts_crl.specs.Table.{crl_fault, crl_of}
use Rattle.ts_crl.specs.declared.owned.OwnedCrlFault.TheVariants.{Memory}
use Rattle.ts_command.specs.declared.command.Command.TheVariants.{LoadCrl}
use Rattle.ts_store.proofs.Applied.{kept_is, loaded}
use Rattle.ts_store.proofs.taken.crl_taken.Goals as goal

pub returns-in_ok-change-in-Ok-clause-same : goal.returns-in_ok-change-in-Ok-clause-same
returns-in_ok-change-in-Ok-clause-same c =
    let kept = kept_is c.octets-octets.result.now c.in-Ok.crl Memory (crl_fault c.octets-octets.result.now) c.in-Ok.ensures.kept c.in-Ok.ensures.refused in
    ap (LoadCrl c.args.id) (kept ∙ c.octets-octets.ensures)

pub returns-in_ok-change-in-Ok-clause-done : goal.returns-in_ok-change-in-Ok-clause-done
returns-in_ok-change-in-Ok-clause-done c = λ new e.
    let kept = kept_is c.octets-octets.result.now c.in-Ok.crl Memory (crl_fault c.octets-octets.result.now) c.in-Ok.ensures.kept c.in-Ok.ensures.refused in
    let octets = kept ∙ c.octets-octets.ensures in
    let id = c.digest.ensures ∙ ap sha256 (c.as_slice.ensures ∙ c.octets-octets.ensures) in
    loaded c.args.id c.args.crl.now _ (crl_in c.view.result) c.in_ok-change-in-Ok.change
    c.args.tables.now new (λ i. record { id = id i; crl = octets i })
    (ap crl_of (sym octets) ∙ c.view.ensures.exact) c.in_ok-change-in-Ok.ensures e
