use Rattle.std.proofs.Common.{◌≡◌, ◌++◌, map, take}
use Rattle.ts_store.specs.Contents.{anchor_in}
use Rattle.ts_listing.specs.Listing.{anchor_rows}
use Rattle.ts_listing.proofs.listing.push_anchors.Given as goal

abbrev pub invariant-loop-anchor : goal.invariant-loop-anchor
invariant-loop-anchor l = l.rows ≡ l.fn.rows ++ anchor_rows (map anchor_in (take l.anchor-index l.anchors))
