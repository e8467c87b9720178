use Rattle.ts_cli.specs.Shapes.{with_listings}
use Rattle.ts_cli.proofs.listing_shape.with_listings.Goals as goal

pub returns : goal.returns
unfolding with_listings
returns c app given =
    let store = c.among-program.ensures _ _ given c.store.ensures.shape in
    let log = c.among-program-2.ensures _ _ store c.log.ensures.shape in
    c.among.ensures _ _ log c.diff.ensures.shape
