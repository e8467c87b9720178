use Rattle.std.proofs.Common.{subst, List, ℕ}
use Rattle.ts_recent.specs.Recent.{AreAmongOr}
use Rattle.ts_answer.proofs.Pairs.{one_more, seen_as}
use Rattle.ts_answer.proofs.cache.Cache.keep.Goals as goal

pub returns : goal.returns
returns c = seen_as c.keep.new.self c.args.self.now c.args.key c.in-Ok.octets.items _ c.in-Ok.ensures
    (one_more c.keep.new.self c.self.inside.answers c.args.self.now c.args.key c.in-Ok.octets
    c.self.view_is c.keep.ensures)
