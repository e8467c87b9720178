use Rattle.ts_listing.proofs.Pages.{joined_all}
use Rattle.ts_listing.proofs.laws.pages_are_all.Goals as goal

pub returns : goal.returns
returns c = joined_all
