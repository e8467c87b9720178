use Rattle.std.proofs.Common.{subst, Err, ap, ◌∙◌}
use Rattle.sha2.specs.Sha256.{sha256}
use Rattle.ts_store.proofs.Places.{IfKept, unreadable, not_new, is_added}
use Rattle.ts_store.proofs.anchors.add_to.Goals as goal

pub returns-in-Err-Unreadable-clause-done : goal.returns-in-Err-Unreadable-clause-done
returns-in-Err-Unreadable-clause-done c =
    unreadable c.args.certificate.now c.args.anchors.now.items c.in-Err-Unreadable.field-0-0
    (subst (λ e. IfKept c.args.certificate.now (Err e)) c.in-Err-Unreadable.field-0-is
    c.in-Err-Unreadable.ensures.kept)

pub returns-in-Some-clause-done : goal.returns-in-Some-clause-done
returns-in-Some-clause-done c =
    not_new c.args.certificate.now c.args.anchors.now.items c.digest-id.result c.deref.result.now
    c.in-Ok.kept c.in-Some.refusal c.in-Ok.ensures.refused
    (c.digest-id.ensures ∙ ap sha256 c.as_slice.ensures) c.deref.ensures.value c.in-Some.ensures

pub returns-clause-done : goal.returns-clause-done
returns-clause-done c =
    is_added c.args.certificate.now c.args.anchors.now.items c.push.new.self.items c.digest-id.result c.deref.result.now c.in-Ok.kept c.any.result c.in-Ok.ensures.kept c.in-Ok.ensures.refused
    (c.digest-id.ensures ∙ ap sha256 c.as_slice.ensures) c.deref.ensures.value c.in_default.ensures c.any.ensures c.in_ok-push.ensures.items
