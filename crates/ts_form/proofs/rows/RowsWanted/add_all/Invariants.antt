-- What the pairs that are left do, all of them do.
use Rattle.std.proofs.Common.{drop, map}
use Rattle.ts_form.specs.Pairs.{pair_in}
use Rattle.ts_form.specs.Rows.{IsRefused, Sets}
use Rattle.ts_form.proofs.OneByOne.{IsLeft}
use Rattle.ts_form.proofs.rows.RowsWanted.add_all.Given as goal

abbrev pub invariant-loop-pair : goal.invariant-loop-pair
invariant-loop-pair l = IsLeft Sets IsRefused (map pair_in l.pairs) (map pair_in (drop l.pair-index l.pairs)) l.initial.self l.self
