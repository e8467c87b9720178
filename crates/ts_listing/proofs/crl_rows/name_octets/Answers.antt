use Rattle.std.proofs.Common.{◌∙◌, ap}
use Rattle.ts_der.specs.View.{now}
use Rattle.ts_listing.specs.Listing.{first_octets}
use Rattle.ts_listing.proofs.Names.{content_is}
use Rattle.ts_listing.proofs.crl_rows.name_octets.Goals as goal

pub returns-clause-front : goal.returns-clause-front
returns-clause-front c = c.cut.ensures.front ∙ ap first_octets (content_is (now c.args.name.element) c.args.name.element.octets c.args.name.form)
