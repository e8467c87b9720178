use Rattle.std.proofs.Common.{◌≡◌, drop}
use Rattle.ts_store.specs.Lists.{has_id, place_by}
use Rattle.ts_store.proofs.Places.{behind}
use Rattle.ts_store.proofs.lists.place_of_crl.Given as goal

abbrev pub invariant-loop-i : goal.invariant-loop-i
invariant-loop-i l = behind l.i (place_by (has_id l.id) (drop l.i l.lists)) ≡ place_by (has_id l.id) l.lists
