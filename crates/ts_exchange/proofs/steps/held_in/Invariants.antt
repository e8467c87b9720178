-- What the rows that are left say, all say; and what is none among them is one of all.
use Rattle.std.proofs.Common.{drop, map}
use Rattle.ts_sync.specs.Plan.{KeptIds, kept_in}
use Rattle.ts_exchange.specs.Held.{HasOther, HoldsAll, nothing}
use Rattle.ts_exchange.proofs.steps.held_in.Given as goal

abbrev pub invariant-loop-octets : goal.invariant-loop-octets
invariant-loop-octets l = ((held : KeptIds)
    → HoldsAll (map (λ row. row.items) (drop l.octets-index l.rows)) (kept_in l.held) held
    → HoldsAll (map (λ row. row.items) l.rows) nothing held)
    × (HasOther (map (λ row. row.items) (drop l.octets-index l.rows)) → HasOther (map (λ row. row.items) l.rows))
