use Rattle.std.proofs.Common.{◌≡◌, map, take}
use Rattle.ts_answer.specs.inside.Trusted.{trusted_in}
use Rattle.ts_path.specs.View.{anchor_in}
use Rattle.ts_answer.proofs.store.anchors_of.Given as goal

abbrev pub invariant-loop-anchor : goal.invariant-loop-anchor
invariant-loop-anchor l = map anchor_in l.anchors.items ≡ map trusted_in (take l.anchor-index l.trusted)
