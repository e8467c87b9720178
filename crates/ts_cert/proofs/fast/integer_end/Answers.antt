use Rattle.std.proofs.Common.{refl, sym, ◌∙◌}
use Rattle.ts_shape.specs.Fields.{IsInteger}
use Rattle.ts_cert.proofs.Spanned.{spans}
use Rattle.ts_cert.proofs.fast.integer_end.Goals as goal

pub returns : goal.returns
returns c =
    spans 0x02 IsInteger c.args.octets.now c.args.at c.in_ok-start.field-0 _ c.in_ok-start.ensures.stands (refl, sym c.is_shortest.ensures ∙ c.if-not-is_shortest.false)
