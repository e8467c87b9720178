use Rattle.std.proofs.Common.{◌≡◌, map, drop}
use Rattle.ts_store.specs.Contents.{anchor_in}
use Rattle.ts_answer.specs.Reply.{with_id}
use Rattle.ts_answer.proofs.store.anchor_of.Given as goal

abbrev pub invariant-loop-anchor : goal.invariant-loop-anchor
invariant-loop-anchor l = with_id l.id (map anchor_in l.anchors) ≡ with_id l.id (map anchor_in (drop l.anchor-index l.anchors))
