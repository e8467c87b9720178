use Rattle.std.proofs.Common.{◌≡◌}
use Rattle.ts_name.specs.General.{general_of}
use Rattle.ts_shape.specs.Items.{items_at}
use Rattle.ts_der.specs.Element.{inside}
use Rattle.ts_der.specs.View.{now}
use Rattle.ts_revoke.specs.Names.{share}
use Rattle.ts_revoke.proofs.names.share.Given as goal

abbrev pub invariant-loop-name : goal.invariant-loop-name
invariant-loop-name l = share (items_at general_of l.name-iterator.rest)
    (items_at general_of (inside (now l.fn.others))) ≡ share
    (items_at general_of (inside (now l.fn.names))) (items_at general_of (inside (now l.fn.others)))
