use Rattle.ts_memo.proofs.Rights.{kept_right}
use Rattle.ts_memo.proofs.memo.Memo.keep.Goals as goal

pub invariant_of-self : goal.invariant_of-self
invariant_of-self c = kept_right c.keep.new.self c.self.inside.answers c.args.question c.args.good
    c.requires c.keep.ensures c.self.invariant
