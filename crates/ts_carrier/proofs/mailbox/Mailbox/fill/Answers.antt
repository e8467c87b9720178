use Rattle.std.proofs.Common.{◌≤◌, ◌∙◌, sym, subst}
use Rattle.ts_carrier.proofs.Full.{enough_ready}
use Rattle.ts_carrier.proofs.mailbox.Mailbox.fill.Goals as goal

-- src/mailbox.rt:87:5
pub returns-after-loop-self-clause-filled : goal.returns-after-loop-self-clause-filled
returns-after-loop-self-clause-filled c = sym c.loop-self.invariant.0 ∙ enough_ready c.loop-self.self.ready c.loop-self.self.frames.items (subst (λ n. 16384 ≤ n) c.len.ensures c.loop-self-test.false)
