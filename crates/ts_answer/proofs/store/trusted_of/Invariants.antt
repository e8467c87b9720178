use Rattle.std.proofs.Common.{◌≡◌, map, take}
use Rattle.ts_store.specs.Contents.{anchor_in}
use Rattle.ts_answer.specs.inside.Trusted.{trusted_in}
use Rattle.ts_answer.specs.Asked.{trust_anchor}
use Rattle.ts_answer.proofs.store.trusted_of.Given as goal

abbrev pub invariant-loop-anchor : goal.invariant-loop-anchor
invariant-loop-anchor l = map trusted_in l.trusted.items ≡ map trust_anchor (map anchor_in (take l.anchor-index l.stored))
