use Rattle.std.proofs.Common.{rules, ◌∙◌, sym}
use Rattle.ts_carrier.proofs.Room.{enough_room, none_waits}
use Rattle.ts_carrier.proofs.mailbox.Mailbox.make_room.Goals as goal
use Rattle.ts_carrier.proofs.mailbox.Mailbox.make_room.Goals.{then-loop-self-test+else-not-has_room, else-loop-self-test}

-- src/mailbox.rt:76:5
pub returns-clause-frames : goal.returns-clause-frames
returns-clause-frames c = elim c.loop-self-test.branch [
  | then-loop-self-test+else-not-has_room w ↦ enough_room c.args.budget c.loop-self.self.frames.items (sym w.has_room.ensures ∙ w.if-not-has_room.false) ∙ c.loop-self.invariant.0
  | else-loop-self-test w ↦ none_waits c.args.budget c.loop-self.self.frames.items (search rules) ∙ c.loop-self.invariant.0
]
