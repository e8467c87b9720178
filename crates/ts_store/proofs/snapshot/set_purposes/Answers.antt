use Rattle.std.proofs.Common.{◌∙◌, ap, sym, map, arith}
use Rattle.ts_store.specs.Contents.{anchor_in}
use Rattle.ts_store.specs.inside.Taken.{with_purposes_of}
use Rattle.ts_store.proofs.Borrowed.{purposes_set, no_purposes_set}
use Rattle.ts_store.proofs.snapshot.set_purposes.Goals as goal

pub returns-then-at-len : goal.returns-then-at-len
returns-then-at-len c =
    purposes_set c.args.anchors.now.items c.args.at c.index_mut.result.now _ (omega (arith, c.if-at-len.true, c.len.ensures)) c.index_mut.ensures.value
    ∙ ap (λ d. with_purposes_of d c.args.at (map anchor_in c.args.anchors.now.items)) (sym c.in-SetPurposes.is)

pub returns-else-at-len : goal.returns-else-at-len
returns-else-at-len c =
    no_purposes_set c.args.anchors.now.items c.args.at c.in-SetPurposes.purposes (omega (arith, c.if-at-len.false, c.len.ensures))
    ∙ ap (λ d. with_purposes_of d c.args.at (map anchor_in c.args.anchors.now.items)) (sym c.in-SetPurposes.is)
