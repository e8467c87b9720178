use Rattle.std.specs.Prelude.{nat_eq}
use Rattle.ts_recent.proofs.Pairs.{used}
use Rattle.ts_recent.proofs.recent.Recent.touch.Goals as goal

pub returns : goal.returns
returns g c = used c.in-Some.table c.promote-is_there.new.self c.self.inside.table c.args.self.now
    (nat_eq c.key.inside.number) c.in-Some.is c.self.view_is c.promote-is_there.ensures.entries
