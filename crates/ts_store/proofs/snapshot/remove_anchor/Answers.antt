use Rattle.std.proofs.Common.{◌∙◌, ap, map}
use Rattle.ts_store.specs.Contents.{anchor_in}
use Rattle.ts_store.proofs.Borrowed.{removed}
use Rattle.ts_store.proofs.snapshot.remove_anchor.Goals as goal

pub returns-then-at-len : goal.returns-then-at-len
returns-then-at-len c = ap (map anchor_in) c.remove-anchor.ensures.items ∙ removed anchor_in c.args.anchors.now.items c.args.at
