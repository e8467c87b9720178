use Rattle.std.proofs.Common.{◌≡◌, ◌∙◌, true, false, is_some, drop, ap, sym, arith}
use Rattle.ts_synod.specs.Store.{settling}
use Rattle.ts_synod.specs.Log.{prefix}
use Rattle.ts_synod.specs.Node.{position_for_wanted}
use Rattle.ts_log.specs.Log.{learned_of}
use Rattle.ts_log.specs.Steps.{learned_after}
use Rattle.ts_node.specs.Growing.{has_id}
use Rattle.ts_node.specs.Machine.{store_of}
use Rattle.ts_node.specs.Roles.{config_of}
use Rattle.ts_node.proofs.Prefix.{step_extends}
use Rattle.ts_node.proofs.Settlings.{a_position, next_some, no_position, settled_first, settled_second, some_as}
use Rattle.ts_node.proofs.roles.Roles.next_for_wanted.Goals as goal
use Rattle.ts_node.proofs.roles.Roles.next_for_wanted.Goals.{then-is_some-via-then-is_some, then-is_some-via-else-is_some+then-joins}

pub returns-then-is_some-clause-next : goal.returns-then-is_some-clause-next
returns-then-is_some-clause-next g c =
    let log = c.args.self.now.log in
    let m = g.M.Machine in
    let store = store_of g.row.M-Question.Denot m.client_id m.outcome in
    let f = learned_of log in
    let after = learned_after log c.args.step.now.change in
    let command = c.in-Some.command.now in
    let id = m.client_id command in
    let more = step_extends log c.args.step.now.change c.args.step.now.facts.items c.requires.latest in
    let same : is_some (settling store (prefix f) id) ≡ is_some c.settled.result =
    ap (λ cs. is_some (settling store cs id)) (sym c.in_ok-feed.ensures.whole)
    ∙ ap (λ i. is_some (settling store (m.commands c.feed.new.machine) i))
    (sym c.id_of-id.ensures) ∙ ap is_some (sym c.settled.ensures) ∙ some_as c.settled.result in
    let here : is_some (settling store (prefix after) id) ≡ true =
    elim c.then-is_some.branch [
      | then-is_some-via-then-is_some w ↦ settled_first store id f after more (same ∙ sym c.is_some.ensures ∙ w.if-is_some.true)
      | then-is_some-via-else-is_some+then-joins w ↦
          settled_second store id f after more (same ∙ sym c.is_some.ensures ∙ w.if-is_some.false)
          ∙ ap (λ k. has_id m.client_id id (drop k (prefix after))) (sym c.requires.before)
          ∙ ap (λ i. has_id m.client_id i (drop c.args.before (prefix after)))
          (sym c.id_of-id.ensures) ∙ sym w.joins.ensures ∙ w.if-joins.true
    ] in
    sym (ap (position_for_wanted store (config_of c.args.self.now) after) (sym c.in-Some.ensures) ∙ no_position store (config_of c.args.self.now) after command here)

pub returns-clause-next : goal.returns-clause-next
returns-clause-next g c =
    let log = c.args.self.now.log in
    let m = g.M.Machine in
    let store = store_of g.row.M-Question.Denot m.client_id m.outcome in
    let f = learned_of log in
    let after = learned_after log c.args.step.now.change in
    let command = c.in-Some.command.now in
    let id = m.client_id command in
    let more = step_extends log c.args.step.now.change c.args.step.now.facts.items c.requires.latest in
    let same : is_some (settling store (prefix f) id) ≡ is_some c.settled.result =
    ap (λ cs. is_some (settling store cs id)) (sym c.in_ok-feed.ensures.whole)
    ∙ ap (λ i. is_some (settling store (m.commands c.feed.new.machine) i))
    (sym c.id_of-id.ensures) ∙ ap is_some (sym c.settled.ensures) ∙ some_as c.settled.result in
    let here : is_some (settling store (prefix after) id) ≡ false =
    settled_second store id f after more (same ∙ sym c.is_some.ensures ∙ c.if-is_some.false)
    ∙ ap (λ k. has_id m.client_id id (drop k (prefix after))) (sym c.requires.before)
    ∙ ap (λ i. has_id m.client_id i (drop c.args.before (prefix after)))
    (sym c.id_of-id.ensures) ∙ sym c.joins.ensures ∙ c.if-joins.false in
    next_some after c.args.after c.requires.after (omega arith)
    ∙ sym (ap (position_for_wanted store (config_of c.args.self.now) after) (sym c.in-Some.ensures)
    ∙ a_position store (config_of c.args.self.now) after command here)
