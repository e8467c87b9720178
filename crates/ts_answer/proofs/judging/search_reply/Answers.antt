use Rattle.std.proofs.Common.{◌∙◌, ap, map, subst, List}
use Rattle.ts_cert.specs.CertView.{cert_in}
use Rattle.ts_answer.specs.Asked.{trust_anchor}
use Rattle.ts_answer.specs.Reply.{SaysSearch}
use Rattle.ts_answer.specs.inside.Trusted.{trusted_in}
use Rattle.ts_store.specs.declared.anchor.TrustAnchor.{TrustAnchor}
use Rattle.ts_answer.proofs.Borrowed.{anchors}
use Rattle.ts_answer.proofs.judging.search_reply.Goals as goal

pub returns-clause-reply : goal.returns-clause-reply
returns-clause-reply g c = λ tables octets same are.
    let are_anchors = c.anchors.ensures ∙ anchors c.args.snapshot.now tables same in
    let again = c.anchors-2.ensures ∙ anchors c.args.snapshot.now tables same in (
      c.in_ok-answer.answer,
      c.in_ok-answer.ensures.answer tables c.args.terms.now octets same c.inputs_of-inputs.ensures.inputs
          (ap (map trusted_in) c.deref-4.ensures.value ∙ c.in_ok-trusted.ensures
          ∙ ap (map trust_anchor) are_anchors)
          (ap (map cert_in) c.deref-5.ensures.value ∙ are.certificates),
      subst (λ (l : List TrustAnchor). SaysSearch l c.in_ok-answer.answer c.in_ok-reply.reply) again c.in_ok-reply.ensures.said,
    )
