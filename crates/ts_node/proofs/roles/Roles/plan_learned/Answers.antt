use Rattle.std.proofs.Common.{◌∙◌, ◌++◌, length, ap, sym, subst}
use Rattle.ts_synod.specs.Force.{log_of, used_round}
use Rattle.ts_synod.specs.Log.{prefix}
use Rattle.ts_synod.specs.Proposer.{on_growth}
use Rattle.ts_synod.specs.Node.{Volatile, position_for_wanted}
use Rattle.ts_proposer.specs.Proposer as proposers
use Rattle.ts_log.specs.Steps.{received_after}
use Rattle.ts_node.specs.Machine.{store_of}
use Rattle.ts_node.specs.Roles.{config_of, volatile_of}
use Rattle.ts_node.specs.inside.Roles.{AllUsed, Makes}
use Rattle.ts_node.proofs.Grown.{effect_grown, has_grown_is}
use Rattle.ts_node.proofs.Used.{growth_rounds}
use Rattle.ts_node.proofs.roles.Roles.plan_learned.Goals as goal

pub returns-clause-latest : goal.returns-clause-latest
returns-clause-latest g c =
    let p = c.args.self.now.proposer in
    let joined = c.in_ok-push_copies-2.ensures
    ∙ ap (λ xs. xs ++ c.deref-2.result.now)
    (c.in_ok-push_copies.ensures ∙ ap (λ xs. xs ++ c.deref.result.now) c.new-facts.ensures.items
    ∙ c.deref.ensures.value)
    ∙ ap (λ xs. c.args.step.facts.items ++ xs) c.deref-2.ensures.value in (
      c.requires.latest,
      c.in_ok-growth.ensures.latest,
      subst AllUsed
          (sym c.in_ok-growth.ensures.step.facts)
          (growth_rounds (proposers.config_of p) (proposers.used_of p) (proposers.state_of p)
          c.in_ok-next.next),
      joined,
    )

pub returns-clause-plan : goal.returns-clause-plan
returns-clause-plan g c = λ facts rule h makes.
    let roles = c.args.self.now in
    let p = roles.proposer in
    let m = g.M.Machine in
    let store = store_of g.row.M-Question.Denot m.client_id m.outcome in
    let wanted = (proposers.state_of p).wanted in
    let growth = on_growth (proposers.config_of p) (proposers.used_of p) (proposers.state_of p) c.in_ok-next.next in
    let step = c.in_ok-growth.ensures.step in
    let joined = c.in_ok-push_copies-2.ensures
    ∙ ap (λ xs. xs ++ c.deref-2.result.now)
    (c.in_ok-push_copies.ensures ∙ ap (λ xs. xs ++ c.deref.result.now) c.new-facts.ensures.items
    ∙ c.deref.ensures.value)
    ∙ ap (λ xs. c.args.step.facts.items ++ xs) c.deref-2.ensures.value in
    let same = ap (λ k. on_growth k (proposers.used_of p) (proposers.state_of p) c.in_ok-next.next)
    h.proposer_config ∙ ap
    (λ u. on_growth (config_of roles) u (proposers.state_of p) c.in_ok-next.next) h.proposer
    ∙ ap (on_growth (config_of roles) (used_round facts) (proposers.state_of p))
    (c.in_ok-next.ensures.next
    ∙ ap (λ f. position_for_wanted store (config_of roles) f wanted) makes.learned) in
    let grown = has_grown_is (log_of facts) rule.learned c.prefix-before.result
    c.prefix_after-after.result (c.prefix-before.ensures ∙ ap (λ f. length (prefix f)) h.log)
    (c.prefix_after-after.ensures ∙ ap (λ f. length (prefix f)) makes.learned)
    c.if-after-before.false in
    subst (Makes roles _) (effect_grown store (config_of roles) facts (volatile_of roles) rule growth grown same) (record {
      facts = joined ∙ ap (λ xs. xs ++ c.in_ok-growth.growth.facts.items) makes.facts ∙ ap (λ xs. rule.facts ++ xs) step.facts;
      messages = c.in_ok-append.ensures.items
          ∙ ap (λ v. v.items ++ c.in_ok-growth.growth.messages.items)
          c.replace-messages.ensures.value
          ∙ ap (λ xs. xs ++ c.in_ok-growth.growth.messages.items) makes.messages
          ∙ ap (λ xs. rule.messages ++ xs) step.messages;
      volatile = ap (λ s. let v : Volatile _ =
          record { proposer = s; received = received_after roles.log c.args.step.change } in v)
          step.state ∙ ap (λ r. let v : Volatile _ =
          record { proposer = growth.state; received = r } in v) makes.received;
    })
