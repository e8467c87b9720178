use Rattle.std.proofs.Common.{◌∙◌}
use Rattle.ts_record.proofs.Places.{next_place}
use Rattle.ts_record.proofs.compacted.facts_of.Goals as goal

pub loop-at-preserved : goal.loop-at-preserved
loop-at-preserved g c =
    next_place c.loop-at.out.items c.push_place.new.out.items c.args.table.now c.loop-at.at
    c.index-table-at.result c.loop-at-test.true c.index-table-at.is c.in_ok-push_place.ensures
    ∙ c.loop-at.invariant
