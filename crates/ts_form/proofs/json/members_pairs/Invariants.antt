-- What was said so far, and what is left.
use Rattle.std.proofs.Common.{map}
use Rattle.serde_json.specs.View.{members_view}
use Rattle.ts_form.specs.Pairs.{pair_in}
use Rattle.ts_form.specs.Said.{members_said}
use Rattle.ts_form.proofs.Saying.{IsSoFar}
use Rattle.ts_form.proofs.json.members_pairs.Given as goal

abbrev pub invariant-loop-name : goal.invariant-loop-name
invariant-loop-name l =
    IsSoFar (members_said (members_view l.members.entries)) (map pair_in l.pairs.items) (members_said (members_view l.name-iterator))
