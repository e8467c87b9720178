use Rattle.std.proofs.Common.{◌≡◌, drop}
use Rattle.ts_crl.specs.ListView.{crl_in}
use Rattle.ts_store.specs.Lists.{has_slot, place_by}
use Rattle.ts_store.proofs.Places.{behind}
use Rattle.ts_store.proofs.lists.place_of_slot.Given as goal

abbrev pub invariant-loop-i : goal.invariant-loop-i
invariant-loop-i l = behind l.i (place_by (has_slot (crl_in l.new)) (drop l.i l.lists)) ≡ place_by (has_slot (crl_in l.new)) l.lists
