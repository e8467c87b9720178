-- What is left of the budget is enough for the other frames exactly where the budget is for all.
use Rattle.std.proofs.Common.{◌≡◌}
use Rattle.std.specs.Prelude.{nat_le}
use Rattle.std.specs.VecDeque.Iter.{deque_iter_rest}
use Rattle.ts_carrier.specs.Mailbox.{total}
use Rattle.ts_carrier.proofs.mailbox.Mailbox.fits.Given as goal

abbrev pub invariant-loop-frame : goal.invariant-loop-frame
invariant-loop-frame l = nat_le (total l.self.frames.items) l.fn.budget ≡ nat_le (total (deque_iter_rest l.frame-iterator)) l.left
