use Rattle.std.proofs.Common.{◌∙◌, map, subst, sym, ap, Option, option_map}
use Rattle.ts_cert.specs.CertView.{cert_in}
use Rattle.ts_store.specs.Contents.{anchor_in}
use Rattle.ts_store.specs.declared.anchor.TrustAnchor.{TrustAnchor}
use Rattle.ts_answer.specs.Reply.{IsChainReply, with_id}
use Rattle.ts_answer.proofs.Borrowed.{anchors}
use Rattle.ts_answer.proofs.judging.chain_reply.Goals as goal

pub returns-clause-reply : goal.returns-clause-reply
returns-clause-reply g c = λ tables octets same are.
    let good = g.S.SignatureCheck.accepts c.args.check.now in
    let found = ap (with_id c.args.id.now) (sym (c.anchors.ensures ∙ anchors c.args.snapshot.now tables same)) ∙ sym c.anchor_of.ensures ∙ ap (option_map anchor_in) c.in-Some.is in
    subst (λ (o : Option TrustAnchor). IsChainReply good tables c.args.terms.now octets o c.in_ok-reply.reply) (sym found) (
      c.in_ok-verdict.verdict,
      c.in_ok-verdict.ensures.verdict tables c.args.terms.now (anchor_in c.in-Some.stored) octets
          same c.inputs_of-inputs.ensures.inputs (c.anchor-anchor.ensures ∙ c.of-trusted.ensures)
          (ap (map cert_in) c.as_slice-chain.ensures.value ∙ are.certificates),
      c.in_ok-reply.ensures.said,
    )
