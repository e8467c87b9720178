use Rattle.std.proofs.lemmas.Result.{err_from_is_err_and}
use Rattle.ts_make.specs.Items.{item}
use Rattle.ts_make.proofs.TooLong.{longer, pieces-next}
use Rattle.ts_make.proofs.items.append_items.Goals as goal

pub returns-in_err-append_item : goal.returns-in_err-append_item
returns-in_err-append_item c =
    let p = err_from_is_err_and c.from_residual.result c.from_residual.ensures.1 in
    let h = rw c.loop-part.invariant at c.in_err-append_item.ensures in
    let front = pieces-next (item c.args.list) c.args.octets.now.items c.args.parts.now c.loop-part.part-index _ c.loop-part-test.true c.part-item.is in
    rw (p.1, p.2) (longer c.in_err-append_item.field-0.0 _ _ h front)
