-- One more pair, or one that is refused.
use Rattle.std.proofs.Common.{rules}
use Rattle.ts_form.proofs.OneByOne.{breaks_off, goes_on, next_left}
use Rattle.ts_form.proofs.wanted.WantedFields.add_all.Goals as goal

pub returns-in_err-add-clause-refused : goal.returns-in_err-add-clause-refused
returns-in_err-add-clause-refused c =
    let left = next_left c.args.pairs.now c.loop-pair.pair-index c.pair-item.result c.as_str.result.now c.as_str-in-loop-pair.result.now
    c.loop-pair-test.true c.pair-item.is c.as_str.ensures.value c.as_str-in-loop-pair.ensures.value c.loop-pair.invariant in
    let told = breaks_off left in
    search (rules, told)

pub loop-pair-preserved : goal.loop-pair-preserved
loop-pair-preserved c =
    let left = next_left c.args.pairs.now c.loop-pair.pair-index c.pair-item.result c.as_str.result.now c.as_str-in-loop-pair.result.now
    c.loop-pair-test.true c.pair-item.is c.as_str.ensures.value c.as_str-in-loop-pair.ensures.value c.loop-pair.invariant in
    goes_on left c.in_ok-add.ensures.sets
