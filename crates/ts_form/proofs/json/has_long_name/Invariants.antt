-- No name before is long.
use Rattle.std.proofs.Common.{◌≡◌}
use Rattle.serde_json.specs.View.{members_view}
use Rattle.ts_form.specs.Said.{has_long_name}
use Rattle.ts_form.proofs.json.has_long_name.Given as goal

abbrev pub invariant-loop-name : goal.invariant-loop-name
invariant-loop-name l = has_long_name (members_view l.members.entries) ≡ has_long_name (members_view l.name-iterator)
