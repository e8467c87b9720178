use Rattle.std.proofs.Common.{◌≡◌}
use Rattle.std.specs.List.{list_any}
use Rattle.ts_der.specs.Element.{inside}
use Rattle.ts_der.specs.View.{now}
use Rattle.ts_name.specs.General.{GeneralName, general_of, directoryName}
use Rattle.ts_shape.specs.Items.{items_at}
use Rattle.ts_name.specs.NameView.{rdns_in}
use Rattle.ts_revoke.specs.Names.{is_same_general}
use Rattle.ts_revoke.proofs.names.holds_directory_name.Given as goal

abbrev pub invariant-loop-other : goal.invariant-loop-other
invariant-loop-other l =
    list_any (λ (n : GeneralName). is_same_general n (directoryName (rdns_in l.fn.name))) (items_at general_of l.other-iterator.rest)
    ≡ list_any (λ (n : GeneralName). is_same_general n (directoryName (rdns_in l.fn.name))) (items_at general_of (inside (now l.fn.names)))
