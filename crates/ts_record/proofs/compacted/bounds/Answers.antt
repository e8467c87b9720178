use Rattle.std.proofs.Common.{rules, ◌≡◌, max, take, ◌∙◌, ap, sym}
use Rattle.ts_synod.specs.Force.{used_round, round_used_by}
use Rattle.ts_record.specs.Compacted.{last_fact_position, position_of}
use Rattle.ts_record.proofs.Places.{last_push, round_push, taken_next}
use Rattle.ts_record.proofs.compacted.bounds.Goals as goal

pub loop-fact-preserved : goal.loop-fact-preserved
loop-fact-preserved g c =
    let before = take c.loop-fact.fact-index c.args.facts.now in
    let fact = c.fact-item.result in
    let next = taken_next c.args.facts.now c.loop-fact.fact-index fact c.loop-fact-test.true c.fact-item.is in
    let last : c.max-last.result ≡ max c.position.result c.loop-fact.last = search rules in
    let used : c.max-used.result ≡ max c.loop-fact.used c.round.result = search rules in (
      last ∙ ap (λ n. max n c.loop-fact.last) c.position.ensures ∙ ap (max (position_of fact)) c.loop-fact.invariant.0 ∙ sym (last_push before fact) ∙ ap last_fact_position (sym next),
      used ∙ ap (max c.loop-fact.used) c.round.ensures ∙ ap (λ n. max n (round_used_by fact)) c.loop-fact.invariant.1 ∙ sym (round_push before fact) ∙ ap used_round (sym next),
    )
