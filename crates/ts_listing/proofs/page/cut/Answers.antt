use Rattle.ts_listing.proofs.Pages.{length_cut}
use Rattle.ts_listing.proofs.page.cut.Goals as goal

pub returns-clause-short : goal.returns-clause-short
returns-clause-short c = rw c.front.ensures (length_cut c.args.octets.now)
