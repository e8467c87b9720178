use Rattle.ts_name.specs.NameView.{rdns_in}
use Rattle.ts_name.proofs.SameNames.{same_is}
use Rattle.ts_sent.proofs.above.is_named.Goals as goal

pub returns : goal.returns
returns c = same_is c.same.result (rdns_in c.args.issuer.now) (rdns_in c.args.name) c.same.ensures
