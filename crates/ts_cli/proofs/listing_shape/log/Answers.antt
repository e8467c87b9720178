use Rattle.ts_cli.specs.Shapes.{log}
use Rattle.ts_cli.proofs.listing_shape.log.Goals as goal

pub returns-clause-shape : goal.returns-clause-shape
unfolding log
returns-clause-shape c = c.with_listing.ensures.shape _ (c.with-from.ensures.shape _ _ c.option.ensures.rule c.reaching.ensures.shape)
