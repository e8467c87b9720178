use Rattle.ts_der.specs.View.{now}
use Rattle.ts_shape.proofs.ItemParts.{some-walked}
use Rattle.ts_shape.proofs.sequence_of.SequenceOf.read.Goals as goal

pub returns : goal.returns
returns g c = some-walked g.T.FromElement.reading (now c.args.element) c.in_ok-check_items.ensures
