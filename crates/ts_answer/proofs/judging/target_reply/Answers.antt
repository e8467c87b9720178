use Rattle.std.proofs.Common.{◌∙◌, ap, sym, subst, Option}
use Rattle.std.specs.Prelude.{IfOk}
use Rattle.ts_question.specs.declared.question.Target.{Target}
use Rattle.ts_question.specs.declared.question.Target.TheVariants.{Chain, Search}
use Rattle.ts_answer.specs.Parts.{Unreadable, certificates_of}
use Rattle.ts_answer.specs.Reply.{IsReplyBy, IsTargetReply}
use Rattle.ts_answer.proofs.judging.target_reply.Goals as goal

pub returns-in-Chain-clause-reply : goal.returns-in-Chain-clause-reply
returns-in-Chain-clause-reply g c = λ tables same.
    let good = g.S.SignatureCheck.accepts c.args.check.now in
    let target = ap (Chain c.in-Chain.anchor) (c.requires.same ∙ ap certificates_of c.in-Chain.is) ∙ sym c.in-Chain.is in
    subst (λ (o : Option Unreadable). IfOk c.chain_reply.result (IsReplyBy good tables (record { terms = c.args.terms.now; target = c.args.target.now }) o)) (sym c.in-Ok.ensures.read.0)
    (subst (λ (t : Target). IfOk c.chain_reply.result (IsTargetReply good tables c.args.terms.now t)) target (c.chain_reply.ensures.reply tables c.args.certificates.now same c.in-Ok.ensures.read.1))

pub returns-in-Search-clause-reply : goal.returns-in-Search-clause-reply
returns-in-Search-clause-reply g c = λ tables same.
    let good = g.S.SignatureCheck.accepts c.args.check.now in
    let target = ap Search (c.requires.same ∙ ap certificates_of c.in-Search.is) ∙ sym c.in-Search.is in
    subst (λ (o : Option Unreadable). IfOk c.search_reply.result (IsReplyBy good tables (record { terms = c.args.terms.now; target = c.args.target.now }) o)) (sym c.in-Ok.ensures.read.0)
    (subst (λ (t : Target). IfOk c.search_reply.result (IsTargetReply good tables c.args.terms.now t)) target (c.search_reply.ensures.reply tables c.args.certificates.now same c.in-Ok.ensures.read.1))
