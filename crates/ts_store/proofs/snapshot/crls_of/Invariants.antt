use Rattle.std.proofs.Common.{◌≡◌, map, take}
use Rattle.ts_store.proofs.snapshot.crls_of.Given as goal

abbrev pub invariant-loop-list : goal.invariant-loop-list
invariant-loop-list l = map (λ c. c.now) l.all.items ≡ take l.list-index l.lists
