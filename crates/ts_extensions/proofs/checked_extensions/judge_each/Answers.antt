use Rattle.std.proofs.Common.{List, Ok, ap, sym, ◌∙◌}
use Rattle.ts_der.specs.View.{now}
use Rattle.ts_shape.proofs.ItemParts.{some-walked}
use Rattle.ts_extensions.specs.Extension.{Located, located_in}
use Rattle.ts_extensions.proofs.checked_extensions.judge_each.Goals as goal

pub returns-clause-placed : goal.returns-clause-placed
returns-clause-placed c = some-walked located_in (now c.args.element) c.in_ok-fault.ensures.shape ∙ ap (λ (xs : List Located). Ok xs) (sym c.within.ensures)
