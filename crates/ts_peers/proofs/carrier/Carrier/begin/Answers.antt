-- The command of a copy of the frame is under way.
use Rattle.std.proofs.Common.{inr}
use Rattle.ts_peers.proofs.carrier.Carrier.begin.Goals as goal

pub returns-in-Ok : goal.returns-in-Ok
returns-in-Ok c = inr (record {
  copy = c.in-Ok.frame;
  chance = c.next_u64-chance.result;
  is_copy = c.in-Ok.ensures.items;
  is = c.begin.ensures;
})
