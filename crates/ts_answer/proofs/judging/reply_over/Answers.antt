use Rattle.std.proofs.Common.{sym, ap, subst}
use Rattle.ts_question.specs.declared.question.Target.{Target}
use Rattle.ts_store.specs.Store.{store_after}
use Rattle.ts_answer.specs.Parts.{certificates_of}
use Rattle.ts_answer.specs.inside.View.{IsJudged}
use Rattle.ts_answer.proofs.Judged.{judged}
use Rattle.ts_answer.proofs.Pages.{store_page_in_range}
use Rattle.ts_answer.proofs.judging.reply_over.Goals as goal

pub returns-in-Chain-clause-reply : goal.returns-in-Chain-clause-reply
returns-in-Chain-clause-reply g c = λ commands same.
    judged (g.S.SignatureCheck.accepts c.args.check.now) commands c.args.question.now
    c.terms-terms.result.now c.target-target.result.now c.in-Chain.certificates
    c.target_reply.result c.terms-terms.ensures c.target-target.ensures.target
    (ap certificates_of (sym c.in-Chain.is))
    (subst (λ (t : Target). IsJudged t) (sym c.in-Chain.is) tt) (c.target_reply.ensures.reply (store_after commands).tables same)

pub returns-in-Search-clause-reply : goal.returns-in-Search-clause-reply
returns-in-Search-clause-reply g c = λ commands same.
    judged (g.S.SignatureCheck.accepts c.args.check.now) commands c.args.question.now
    c.terms-terms.result.now c.target-target.result.now c.in-Search.certificates
    c.target_reply-in-Search.result c.terms-terms.ensures c.target-target.ensures.target
    (ap certificates_of (sym c.in-Search.is))
    (subst (λ (t : Target). IsJudged t) (sym c.in-Search.is) tt) (c.target_reply-in-Search.ensures.reply (store_after commands).tables same)

pub returns-in-Store-clause-within : goal.returns-in-Store-clause-within
returns-in-Store-clause-within g c = λ commands same. store_page_in_range c.store_page.result c.in-Store.from c.args.snapshot.now commands same c.store_page.ensures
