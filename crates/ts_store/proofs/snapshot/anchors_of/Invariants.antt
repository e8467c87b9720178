use Rattle.std.proofs.Common.{◌≡◌, map, take}
use Rattle.ts_store.specs.Contents.{anchor_in}
use Rattle.ts_store.proofs.snapshot.anchors_of.Given as goal

abbrev pub invariant-loop-anchor : goal.invariant-loop-anchor
invariant-loop-anchor l = map anchor_in l.all.items ≡ take l.anchor-index l.anchors
