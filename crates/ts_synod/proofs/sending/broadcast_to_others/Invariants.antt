use Rattle.std.proofs.Common.{◌≡◌}
use Rattle.ts_synod.specs.Messages.{broadcast_to_others}
use Rattle.ts_synod.proofs.sending.broadcast_to_others.Given as goal

abbrev pub invariant-loop-other : goal.invariant-loop-other
invariant-loop-other g l = l.messages.items ≡ broadcast_to_others l.me l.other l.body
