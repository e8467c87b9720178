-- One pair, and the digits of its text.
use Rattle.ts_form.proofs.Naming.{one_pair, names_id}
use Rattle.ts_form.proofs.rows.command_id_of.Goals as goal

pub returns : goal.returns
returns c =
    names_id c.args.pairs.now c.pair-item.result c.as_str.result.now c.as_str-2.result.now c.id_of.result
    (one_pair c.args.pairs.now c.pair-item.result c.in-len1.len_at_least c.in-len1.len_below c.pair-item.is)
    c.as_str.ensures.value c.if-ne.ensures c.as_str-2.ensures.value c.id_of.ensures
