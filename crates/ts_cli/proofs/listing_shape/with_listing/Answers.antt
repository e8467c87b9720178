use Rattle.ts_cli.specs.Shapes.{with_listing}
use Rattle.ts_cli.proofs.listing_shape.with_listing.Goals as goal

pub returns-clause-shape : goal.returns-clause-shape
unfolding with_listing
returns-clause-shape c shape given =
    let k = c.with-all.ensures.shape _ _ c.option.ensures.rule given in
    c.with.ensures.shape _ _ c.flag.ensures.rule k
