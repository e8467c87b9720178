use Rattle.std.proofs.Common.{subst, sym}
use Rattle.ts_memo.specs.inside.Memo.{AreRight}
use Rattle.ts_memo.proofs.Rights.{none_right}
use Rattle.ts_memo.proofs.memo.Memo.new.Goals as goal

pub invariant_of-result : goal.invariant_of-result
invariant_of-result c = subst AreRight (sym c.new.ensures) none_right
