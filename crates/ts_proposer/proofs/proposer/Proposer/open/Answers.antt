use Rattle.std.proofs.Common.{◌≡◌, ◌∙◌, ◌+◌, ◌<◌, ◌++◌, ◌∷◌, [], length, max, take, ap, sym, arith}
use Rattle.std.proofs.lemmas.List.{take_more}
use Rattle.ts_synod.specs.Force.{round_used_by, used_round}
use Rattle.ts_synod.proofs.Same.{used_push}
use Rattle.ts_proposer.proofs.proposer.Proposer.open.Goals as goal

pub loop-fact-preserved : goal.loop-fact-preserved
loop-fact-preserved g c =
    let xs = c.args.facts.now in
    let i = c.loop-fact.fact-index in
    let x = c.fact-item.result in
    let inside : i < length xs = omega arith in
    let e : take (i + 1) xs ≡ take i xs ++ x ∷ [] = take_more xs i x inside ∙ ap (λ y. take i xs ++ y ∷ []) (sym c.fact-item.is) in
    c.later_round-used.ensures ∙ ap (λ u. max u (round_used_by x)) c.loop-fact.invariant ∙ sym (used_push (take i xs) x) ∙ ap used_round (sym e)
