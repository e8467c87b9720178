-- The frames that will be left stay the same; each round fewer wait.
use Rattle.std.proofs.Common.{◌≡◌, ◌≤◌, length}
use Rattle.ts_carrier.specs.Mailbox.{with_room}
use Rattle.ts_carrier.proofs.mailbox.Mailbox.make_room.Given as goal

abbrev pub invariant-loop-self : goal.invariant-loop-self
invariant-loop-self l = (with_room l.fn.budget l.self.frames.items ≡ with_room l.fn.budget l.initial.self.frames.items)
    × (l.self.ready ≡ l.initial.self.ready)
    × (length l.self.frames.items ≤ length l.initial.self.frames.items)

abbrev pub decreases-loop-self : goal.decreases-loop-self
decreases-loop-self l = length l.self.frames.items
