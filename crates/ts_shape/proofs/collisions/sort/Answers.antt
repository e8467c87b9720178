use Rattle.std.proofs.Common.{rules}
use Rattle.arrayvec.proofs.ArrayVecLemmas.{items-with_items}
use Rattle.ts_shape.proofs.collisions.sort.Goals as goal

pub returns-clause-ascending : goal.returns-clause-ascending
returns-clause-ascending g c = rw (items-with_items c.args.table.now c.sort_unstable.new.self (search rules)) c.sort_unstable.ensures.sorted
