-- The promises of a round ('Paxos Made Simple' 2.2).
use Rattle.std.proofs.Common.{ℕ, Option}
use Rattle.std.specs.Ordering.{nat_cmp}
use Rattle.std.specs.BTreeMap.{BTreeMap, get}
use Rattle.ts_synod.specs.declared.message.Vote.{Vote}
use Rattle.ts_synod.specs.Places.{or_none}

-- by node, the vote that its promise reported; a place that waits for a step is no promise
abbrev pub promises_in : {C : Type 0} → BTreeMap ℕ (Option (Option (Vote C))) → ℕ
    → Option (Option (Vote C))
promises_in m a = or_none (get nat_cmp m a)
