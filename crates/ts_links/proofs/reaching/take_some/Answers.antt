-- What was taken so far, and one more.
use Rattle.ts_links.proofs.Reached.{reached_gives, reached_then}
use Rattle.ts_links.proofs.reaching.take_some.Goals as goal

pub returns-in-Err-clause-reached : goal.returns-in-Err-clause-reached
returns-in-Err-clause-reached g c =
    reached_then g.S.Service.turn g.S.Service.keeps c.args.service.now c.loop-taken.service
    c.take.new.service c.args.table.now.links.items c.loop-taken.table.links.items
    c.take.new.self.links.items c.loop-taken.invariant.reached
    (reached_gives g.S.Service.turn g.S.Service.keeps c.loop-taken.service c.take.new.service
    c.loop-taken.table.links.items c.take.new.self.links.items c.args.slot c.args.now c.take.result
    c.take.ensures.gives)

pub loop-taken-preserved : goal.loop-taken-preserved
loop-taken-preserved g c = record {
  reached = reached_then g.S.Service.turn g.S.Service.keeps c.args.service.now c.loop-taken.service
      c.take.new.service c.args.table.now.links.items c.loop-taken.table.links.items
      c.take.new.self.links.items c.loop-taken.invariant.reached
      (reached_gives g.S.Service.turn g.S.Service.keeps c.loop-taken.service c.take.new.service
      c.loop-taken.table.links.items c.take.new.self.links.items c.args.slot c.args.now
      c.take.result c.take.ensures.gives);
  ready = c.take.ensures.ready;
}
