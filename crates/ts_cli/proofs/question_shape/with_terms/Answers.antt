use Rattle.ts_cli.specs.Shapes.{with_terms}
use Rattle.ts_cli.proofs.question_shape.with_terms.Goals as goal

pub returns-clause-shape : goal.returns-clause-shape
unfolding with_terms
returns-clause-shape c shape given =
    let at = c.with-all.ensures.shape _ _ (c.mandatory.ensures.rule _ c.option-at.ensures.rule) given in
    let k = c.with.ensures.shape _ _ c.option.ensures.rule at in
    let flags = c.with_flags-all.ensures.shape _ k in
    let policy = c.with-all-2.ensures.shape _ _ c.options.ensures.rule flags in
    c.with-2.ensures.shape _ _ c.option-2.ensures.rule policy
