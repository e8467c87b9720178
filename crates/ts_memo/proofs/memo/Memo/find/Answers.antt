use Rattle.ts_memo.proofs.Rights.{found_right, fewer_right}
use Rattle.ts_memo.proofs.memo.Memo.find.Goals as goal

pub invariant_of-self : goal.invariant_of-self
invariant_of-self c = fewer_right c.touch.new.self c.self.inside.answers c.touch.ensures
    c.self.invariant

pub returns : goal.returns
returns c = found_right c.self.inside.answers c.args.question.now c.in-Some.good.now
    c.self.invariant c.in-Some.ensures
