use Rattle.std.proofs.Common.{◌∙◌, ap, sym, subst, map, suc, length}
use Rattle.ts_codec.proofs.Truths.{both_true}
use Rattle.ts_store.specs.Contents.{anchor_in}
use Rattle.ts_question.specs.Reply.{are_places}
use Rattle.ts_question.specs.declared.reply.Reply.TheVariants.{Found}
use Rattle.ts_search.specs.declared.answer.SearchAnswer.{SearchAnswer}
use Rattle.ts_answer.specs.inside.Ranges.{IsAmong}
use Rattle.ts_answer.specs.Reply.{SaysSearch}
use Rattle.ts_answer.proofs.verdicts.reply_of_search.Goals as goal

pub returns-in_ok-policies-in-Found-clause-said : goal.returns-in_ok-policies-in-Found-clause-said
returns-in_ok-policies-in-Found-clause-said c =
    subst (λ (a : SearchAnswer). SaysSearch (map anchor_in c.args.anchors.now) a (Found c.id_at-anchor.result c.in_ok-places-in-Found.places c.in_ok-policies-in-Found.policies)) (sym c.in-Found.is) (
      c.id_at-anchor.ensures,
      c.in_ok-places-in-Found.ensures ∙ ap (map suc) c.deref.ensures.value,
      c.in_ok-policies-in-Found.ensures.same ∙ ap (map (λ p. p.content.now)) c.deref-in-Found.ensures.value,
    )

pub returns-in_ok-policies-in-Found-clause-within : goal.returns-in_ok-policies-in-Found-clause-within
returns-in_ok-policies-in-Found-clause-within c = λ k.
    let among = subst (IsAmong (length c.args.anchors.now)) c.in-Found.is c.requires in
    both_true _ _ (ap are_places (c.in_ok-places-in-Found.ensures ∙ ap (map suc) c.deref.ensures.value) ∙ among.2) c.in_ok-policies-in-Found.ensures.few
