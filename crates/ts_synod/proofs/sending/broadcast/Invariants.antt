use Rattle.std.proofs.Common.{◌≡◌}
use Rattle.ts_synod.specs.Messages.{broadcast}
use Rattle.ts_synod.proofs.sending.broadcast.Given as goal

abbrev pub invariant-loop-node : goal.invariant-loop-node
invariant-loop-node g l = l.messages.items ≡ broadcast l.me l.node l.body
