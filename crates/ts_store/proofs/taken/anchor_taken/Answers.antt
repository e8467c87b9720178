use Rattle.std.proofs.Common.{◌∙◌, ⊎_elim, ap}
use Rattle.std.specs.Prelude.{is_some}
use Rattle.sha2.specs.Sha256.{sha256}
use Rattle.ts_cert.specs.Table.{certificate_fault}
use Rattle.ts_cert.specs.declared.owned.OwnedCertFault.TheVariants.{Memory, Unreadable}
use Rattle.ts_store.specs.Anchors.{new_refusal}
use Rattle.ts_command.specs.declared.command.Command.TheVariants.{AddAnchor}
use Rattle.ts_store.proofs.Applied.{added, kept_is, not_added, not_ok}
use Rattle.ts_store.proofs.taken.anchor_taken.Goals as goal

pub returns-in-Ok-clause-same : goal.returns-in-Ok-clause-same
returns-in-Ok-clause-same c =
    let kept = kept_is c.octets-octets.result.now c.in-Ok.certificate Memory
    (certificate_fault c.octets-octets.result.now) c.in-Ok.ensures.kept
    (λ f h. not_ok c.in-Ok.certificate (Unreadable f) (c.in-Ok.ensures.refused f h)) in
    ap (AddAnchor c.args.id) (kept ∙ c.octets-octets.ensures)

pub returns-in-Ok-clause-done : goal.returns-in-Ok-clause-done
returns-in-Ok-clause-done c = λ old new e.
    let kept = kept_is c.octets-octets.result.now c.in-Ok.certificate Memory
    (certificate_fault c.octets-octets.result.now) c.in-Ok.ensures.kept
    (λ f h. not_ok c.in-Ok.certificate (Unreadable f) (c.in-Ok.ensures.refused f h)) in
    let octets = kept ∙ c.octets-octets.ensures in
    let id = c.digest.ensures ∙ ap sha256 (c.as_slice.ensures ∙ c.octets-octets.ensures) in
    added c.args.id c.args.certificate.now _ (λ i. record { id = id i; certificate = octets i; purposes = c.any.ensures i }) (is_some (certificate_fault c.args.certificate.now)) old new e

pub returns-in_ok-certificate-in-Err-Unreadable-clause-done : goal.returns-in_ok-certificate-in-Err-Unreadable-clause-done
returns-in_ok-certificate-in-Err-Unreadable-clause-done c = λ old new e.
    not_added c.args.certificate.now (certificate_fault c.args.certificate.now)
    (λ none. ⊎_elim (λ i. cc (i, c.in-Err-Unreadable.field-0-is))
    (λ i. cc (i, c.in-Err-Unreadable.field-0-is))
    (c.in-Err-Unreadable.ensures.kept (ap certificate_fault c.octets-octets.ensures ∙ none)))
    (new_refusal (sha256 c.args.certificate.now) old.anchors) old new e
