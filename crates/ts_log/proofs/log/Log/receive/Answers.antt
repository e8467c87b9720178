use Rattle.std.proofs.Common.{◌∙◌, Some, ap, refl, sym, rules}
use Rattle.ts_synod.specs.Lists.{update_at}
use Rattle.ts_log.specs.Log.{received_of}
use Rattle.ts_log.proofs.Places.{put_own}
use Rattle.ts_log.proofs.Votes.{IsBelow, with_new, with_old}
use Rattle.ts_log.proofs.log.Log.receive.Goals as goal
use Rattle.ts_log.proofs.log.Log.receive.Goals.{in-Some+else-ballot-vote, in_default}

pub returns-then-ballot-vote-clause-step : goal.returns-then-ballot-vote-clause-step
returns-then-ballot-vote-clause-step g c =
    let votes = received_of c.args.self.now in
    let p = c.args.position in
    let made = c.only_messages.ensures.step in
    record {
      facts = made.facts;
      messages = made.messages ∙ c.new.ensures.items;
      learned = made.learned;
      received = made.received
          ∙ sym (ap (update_at votes p)
          (with_old (votes p) c.args.from c.in-Some.vote.now
          (record { ballot = c.args.ballot; command = c.args.command.now }) (sym c.in-Some.ensures)
          c.if-ballot-vote.true) ∙ put_own votes p);
    }

pub returns-clause-step : goal.returns-clause-step
returns-clause-step g c =
    let votes = received_of c.args.self.now in
    let p = c.args.position in
    let from = c.args.from in
    let b = c.args.ballot in
    let low : IsBelow (votes p from) b = elim c.match-vote.branch [ in-Some+else-ballot-vote w ↦ search rules | in_default w ↦ search rules ] in
    record {
      facts = c.new-2.ensures.items;
      messages = c.new-3.ensures.items;
      learned = refl;
      received = ap (λ d. update_at votes p
          (update_at (votes p) from (Some (record { ballot = b; command = d }))))
          c.in_ok-try_copy.ensures.copy
          ∙ sym (ap (update_at votes p)
          (with_new (votes p) from (record { ballot = b; command = c.args.command.now }) low));
    }
