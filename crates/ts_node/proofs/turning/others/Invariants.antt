-- what was kept so far are the messages to others among those that came
use Rattle.std.proofs.Common.{◌≡◌, ◌==◌, not}
use Rattle.std.specs.List.{filter}
use Rattle.ts_node.proofs.turning.others.Given as goal

abbrev pub invariant-loop-message : goal.invariant-loop-message
invariant-loop-message g l = record {
  can_next : (goal.iterator-loop-message g).can_next l.message-iterator;
  is_finite : (goal.iterator-loop-message g).is_finite l.message-iterator;
  kept : l.kept.items ≡ filter (λ m. not (m.to == l.me)) l.yielded;
}
