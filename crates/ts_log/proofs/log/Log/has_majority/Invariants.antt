use Rattle.std.proofs.Common.{◌≡◌, ◌≤◌}
use Rattle.ts_synod.specs.Majority.{count}
use Rattle.ts_synod.specs.Log.{is_vote_in, with_vote}
use Rattle.ts_log.specs.Log.{received_of}
use Rattle.ts_log.proofs.log.Log.has_majority.Given as goal

abbrev pub invariant-loop-node : goal.invariant-loop-node
invariant-loop-node g l =
    record {
      votes : l.votes ≡ count
          (λ a. is_vote_in l.ballot
          (with_vote (received_of l.self l.position) l.from
          (record { ballot = l.ballot; command = l.command }) a)) l.node;
      within : l.votes ≤ l.node;
    }
