use Rattle.ts_cli.specs.Shapes.{diff}
use Rattle.ts_cli.proofs.listing_shape.diff.Goals as goal

pub returns-clause-shape : goal.returns-clause-shape
unfolding diff
returns-clause-shape c =
    let address = c.with.ensures.shape _ _ c.word-address.ensures.rule c.leaf.ensures.shape in
    let old = c.with-own.ensures.shape _ _ c.word-old.ensures.rule address in
    c.with_key.ensures.shape _ (c.with-2.ensures.shape _ _ c.word-new.ensures.rule old)
