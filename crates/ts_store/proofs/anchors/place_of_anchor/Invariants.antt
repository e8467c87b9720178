use Rattle.std.proofs.Common.{◌≡◌, drop}
use Rattle.ts_store.specs.Anchors.{place_of}
use Rattle.ts_store.proofs.Places.{behind}
use Rattle.ts_store.proofs.anchors.place_of_anchor.Given as goal

abbrev pub invariant-loop-i : goal.invariant-loop-i
invariant-loop-i l = behind l.i (place_of l.id (drop l.i l.anchors)) ≡ place_of l.id l.anchors
