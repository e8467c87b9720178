use Rattle.ts_answer.proofs.Pairs.{fewer}
use Rattle.ts_answer.proofs.cache.Cache.find.Goals as goal

pub returns-clause-others : goal.returns-clause-others
returns-clause-others c = fewer c.touch.new.self c.self.inside.answers c.args.self.now c.self.view_is
    c.touch.ensures
