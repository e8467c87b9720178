use Rattle.std.proofs.lemmas.Result.{err_from_is_err_and}
use Rattle.ts_make.specs.Items.{items_of}
use Rattle.ts_make.proofs.TooLong.{longer, sequence-within}
use Rattle.ts_make.proofs.extensions.append_list.Goals as goal

pub returns-in_err-append_items : goal.returns-in_err-append_items
returns-in_err-append_items c =
    let p = err_from_is_err_and c.from_residual.result c.from_residual.ensures.1 in
    let h = rw c.new-items.ensures.items at c.in_err-append_items.ensures in
    let within = sequence-within c.args.octets.now.items c.args.arc c.args.critical (items_of c.args.list c.args.parts.now) in
    rw (p.1, p.2) (longer c.in_err-append_items.field-0.0 _ _ h within)
