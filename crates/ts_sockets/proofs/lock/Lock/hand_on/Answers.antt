-- Moves after moves.
use Rattle.ts_links.proofs.Reached.{quiet_then}
use Rattle.ts_sockets.proofs.lock.Lock.hand_on.Goals as goal

pub loop-step-preserved : goal.loop-step-preserved
loop-step-preserved c = quiet_then _ _ _ c.loop-step.invariant c.arrive.ensures.quiet

pub returns-then-not-arrive : goal.returns-then-not-arrive
returns-then-not-arrive c = quiet_then _ _ _ c.loop-step.invariant c.arrive.ensures.quiet
