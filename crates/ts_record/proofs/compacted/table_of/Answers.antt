use Rattle.std.proofs.Common.{◌+◌, [], suc, length, set, take, get_or, ◌∙◌, ap, sym, arith}
use Rattle.ts_record.specs.Compacted.{last_fact_position}
use Rattle.ts_record.specs.inside.Places.{places, place_of, with_fact}
use Rattle.ts_record.proofs.Places.{noted, at_place, places_length, within, taken_next}
use Rattle.ts_record.proofs.compacted.table_of.Goals as goal

pub loop-fact-init : goal.loop-fact-init
loop-fact-init g c = c.in_ok-table.ensures ∙ ap (λ k. places 0 k []) {y = suc (last_fact_position c.args.facts.now)} (omega (arith, c.requires))

pub index_mut-requires : goal.index_mut-requires
index_mut-requires g c =
    let last = last_fact_position c.args.facts.now in
    let low = within c.args.facts.now c.loop-fact.fact-index c.fact-item.result c.loop-fact-test.true c.fact-item.is in
    omega (arith, low, c.position-at.ensures, ap length c.loop-fact.invariant, places_length (take c.loop-fact.fact-index c.args.facts.now) 0 (suc last))

pub loop-fact-preserved : goal.loop-fact-preserved
loop-fact-preserved g c =
    let before = take c.loop-fact.fact-index c.args.facts.now in
    let last = last_fact_position c.args.facts.now in
    let fact = c.fact-item.result in
    let at = c.position-at.result in
    let low = within c.args.facts.now c.loop-fact.fact-index fact c.loop-fact-test.true c.fact-item.is in
    let next = taken_next c.args.facts.now c.loop-fact.fact-index fact c.loop-fact-test.true c.fact-item.is in
    ap (λ l. set l at c.note.new.place) c.loop-fact.invariant
    ∙ noted before fact 0 (suc last) at (omega (arith, c.position-at.ensures)) (omega (arith, low, c.position-at.ensures)) c.note.new.place
    (c.in_ok-note.ensures
    ∙ ap (λ p. with_fact p fact)
    (c.index_mut.ensures.value
    ∙ ap (λ l. get_or l at c.index_mut.result.now) c.loop-fact.invariant
    ∙ at_place before 0 (suc last) at c.index_mut.result.now
    (omega (arith, low, c.position-at.ensures))
    ∙ ap (λ p. place_of p before) {x = 0 + at} (omega (arith, c.position-at.ensures))))
    ∙ ap (places 0 (suc last)) (sym next)
