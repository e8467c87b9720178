use Rattle.std.proofs.Common.{◌++◌, suc, ◌∙◌, ap, length, arith}
use Rattle.ts_synod.specs.Force.{used_round}
use Rattle.ts_record.specs.Compacted.{used_fact, last_fact_position}
use Rattle.ts_record.specs.inside.Places.{facts_of_all}
use Rattle.ts_record.proofs.Places.{facts_of_places, places_length}
use Rattle.ts_record.proofs.compacted.compact.Goals as goal

pub facts_of-requires : goal.facts_of-requires
facts_of-requires g c =
    let n = suc (last_fact_position c.args.facts.now) in
    omega (arith, ap length c.in_ok-table.ensures, places_length c.args.facts.now 0 n, c.bounds-last.ensures.last)

pub returns : goal.returns
returns g c =
    let n = suc (last_fact_position c.args.facts.now) in
    c.in_ok-out.ensures ∙ ap (λ k. used_fact k ++ facts_of_all 0 c.deref.result.now)
    c.bounds-last.ensures.used
    ∙ ap (λ t. used_fact (used_round c.args.facts.now) ++ facts_of_all 0 t)
    (c.deref.ensures.value ∙ c.in_ok-table.ensures)
    ∙ ap (λ l. used_fact (used_round c.args.facts.now) ++ l) (facts_of_places c.args.facts.now 0 n)
