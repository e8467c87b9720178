use Rattle.ts_cli.specs.Shapes.{with_inputs}
use Rattle.ts_cli.proofs.verify_shape.with_inputs.Goals as goal

pub returns-clause-shape : goal.returns-clause-shape
unfolding with_inputs
returns-clause-shape c shape given =
    let at = c.with-all.ensures.shape _ _ c.option.ensures.rule given in
    let host = c.with-all-2.ensures.shape _ _ c.option-2.ensures.rule at in
    let soft = c.with-all-3.ensures.shape _ _ c.flag.ensures.rule host in
    let deltas = c.with-all-4.ensures.shape _ _ c.flag-2.ensures.rule soft in
    let explicit = c.with-all-5.ensures.shape _ _ c.flag-3.ensures.rule deltas in
    let nomap = c.with-all-6.ensures.shape _ _ c.flag-4.ensures.rule explicit in
    let noany = c.with-all-7.ensures.shape _ _ c.flag-5.ensures.rule nomap in
    let policy = c.with-all-8.ensures.shape _ _ c.options.ensures.rule noany in
    c.with.ensures.shape _ _ c.option-3.ensures.rule policy
