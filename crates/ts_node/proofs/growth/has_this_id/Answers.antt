use Rattle.std.proofs.Common.{◌∙◌, ap}
use Rattle.ts_synod.specs.Store.{same_id}
use Rattle.ts_node.proofs.Settlings.{by_equality}
use Rattle.ts_node.proofs.growth.has_this_id.Goals as goal

pub returns : goal.returns
returns g c =
    by_equality c.is_same.result c.id_of-other.result c.args.id.now c.is_same.ensures.equal c.is_same.ensures.different ∙ ap (λ a. same_id a c.args.id.now) c.id_of-other.ensures
