use Rattle.std.proofs.Common.{◌≡◌, ◌∙◌, ◌+◌, ◌*◌, suc, refl, sym, ap, subst}
use Rattle.std.specs.List.{slice_get}
use Rattle.ts_synod.specs.Log.{next_position, prefix}
use Rattle.ts_synod.specs.Node.{Step, Volatile}
use Rattle.ts_synod.specs.Proposer.{begin_round, greatest_round, propose}
use Rattle.ts_synod.specs.Store.{settling}
use Rattle.ts_proposer.specs.Proposer as proposers
use Rattle.ts_log.specs.Log.{received_of}
use Rattle.ts_node.specs.declared.input.Reply.TheVariants as replies
use Rattle.ts_node.specs.declared.plan.Move.TheVariants.{Propose}
use Rattle.ts_node.specs.declared.plan.Plan.{Plan}
use Rattle.ts_node.specs.Inputs.{SaysReply}
use Rattle.ts_node.specs.Machine.{settling_as, store_of}
use Rattle.ts_node.specs.Roles.{config_of, volatile_of}
use Rattle.ts_node.specs.inside.Roles.{AllUsed, Makes}
use Rattle.ts_node.proofs.Questions.{proposed, submits}
use Rattle.ts_node.proofs.roles.Roles.plan_submit.Goals as goal

pub returns-in-Some-Used-clause-latest : goal.returns-in-Some-Used-clause-latest
returns-in-Some-Used-clause-latest g c =
    let p = c.args.self.now.proposer in
    let made = proposed p c.in-Ok-propose.step (proposers.config_of p) (proposers.used_of p) (proposers.state_of p) c.in-Ok.position c.args.command.now c.in-Ok-propose.ensures.step in
    (c.in-Ok-propose.ensures.latest, subst AllUsed (sym made.1.facts) tt)

pub returns-in-Some-Used-clause-step : goal.returns-in-Some-Used-clause-step
returns-in-Some-Used-clause-step g c = λ facts h.
    let roles = c.args.self.now in
    let p = roles.proposer in
    let m = g.M.Machine in
    let store = store_of g.row.M-Question.Denot m.client_id m.outcome in
    let command = c.args.command.now in
    let position = c.in-Ok.position in
    let state = proposers.state_of p in
    let rule = begin_round (proposers.config_of p) (proposers.used_of p) state position command in
    let made = proposed p c.in-Ok-propose.step (proposers.config_of p) (proposers.used_of p) state position command c.in-Ok-propose.ensures.step in
    let begun = sym (ap (λ k. propose k (proposers.used_of p) state position command) h.proposer_config ∙ ap (λ u. propose (config_of roles) u state position command) h.proposer) ∙ made.0 in
    let new = ap (λ f. settling store (prefix f) (m.client_id command)) (sym h.log)
    ∙ ap (λ cs. settling store cs (m.client_id command)) (sym c.in_ok-feed.ensures.whole)
    ∙ ap (λ i. settling store (m.commands c.feed.new.machine) i) (sym c.id_of-id.ensures)
    ∙ sym c.settled.ensures ∙ ap settling_as c.in_default.is in
    let next = ap next_position (sym h.log) ∙ sym c.in-Ok.ensures in
    let first = c.in-Some-Used.ensures.value ∙ ap (λ xs. slice_get xs 0) (c.deref.ensures.value ∙ made.1.facts) in
    let round : c.in-Some-Used.round ≡ suc (greatest_round (proposers.used_of p) state) = let f = c.in-Some-Used.field-0-is in cc in
    let b = c.ballot_of-ballot.ensures ∙ ap (λ r. 16 * r + roles.me) (round ∙ ap (λ u. suc (greatest_round u state)) h.proposer) in
    let plan : Plan g.row.C.Denot =
    record {
      messages = c.replace-messages.result;
      change =
          Propose (record {
            facts = c.in-Ok-propose.step.facts;
            messages =
                c.replace-messages.new.dest;
            change = c.in-Ok-propose.step.change;
          });
    } in
    subst (λ (s : Step _ _ _ _). Makes roles plan s.effect
    × SaysReply (m.is_answer (m.basis c.args.machine.now))
    (replies.Started position c.ballot_of-ballot.result) s.reply)
    (submits store (config_of roles) facts (volatile_of roles) command position rule new next
    begun) (
      record {
        facts = made.1.facts;
        messages = ap (λ v. v.items) c.replace-messages.ensures.value ∙ made.1.messages;
        volatile = ap (λ s. let v : Volatile _ = record { proposer = s; received = received_of roles.log } in v) made.1.state;
      },
      (refl, b),
    )
