use Rattle.ts_cli.specs.Shapes.{store}
use Rattle.ts_cli.proofs.listing_shape.store.Goals as goal

pub returns-clause-shape : goal.returns-clause-shape
unfolding store
returns-clause-shape c = c.with_listing.ensures.shape _ c.reaching.ensures.shape
