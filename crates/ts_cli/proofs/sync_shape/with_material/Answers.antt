use Rattle.ts_cli.specs.Shapes.{with_material}
use Rattle.ts_cli.proofs.sync_shape.with_material.Goals as goal

pub returns-clause-shape : goal.returns-clause-shape
unfolding with_material
returns-clause-shape c shape given =
    let anchors = c.with-all.ensures.shape _ _ c.options.ensures.rule given in
    let over = c.with-all-2.ensures.shape _ _ c.flag.ensures.rule anchors in
    let crls = c.with-all-3.ensures.shape _ _ c.options-2.ensures.rule over in
    let issuer = c.with-all-4.ensures.shape _ _ c.options-3.ensures.rule crls in
    c.with.ensures.shape _ _ c.flag-2.ensures.rule issuer
