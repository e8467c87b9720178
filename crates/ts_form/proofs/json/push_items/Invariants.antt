-- What was said so far, and what is left.
use Rattle.std.proofs.Common.{◌≡◌, List, Some, drop, map}
use Rattle.std.specs.Prelude.{fold}
use Rattle.serde_json.specs.View.{items_view}
use Rattle.ts_form.specs.Pairs.{NamedValue, pair_in, with_pair}
use Rattle.ts_form.specs.Said.{both, items_said}
use Rattle.ts_form.proofs.json.push_items.Given as goal

abbrev pub invariant-loop-item : goal.invariant-loop-item
invariant-loop-item l =
    (done : List NamedValue) × (map pair_in l.pairs.items ≡ fold with_pair (map pair_in l.initial.pairs.items) done)
    × (items_said l.name (items_view l.items) ≡ both (Some done) (items_said l.name (items_view (drop l.item-index l.items))))
