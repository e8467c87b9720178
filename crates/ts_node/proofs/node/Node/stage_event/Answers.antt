-- An event is taken in memory, or refused.
use Rattle.std.proofs.Common.{◌∙◌, ◌++◌, ap, refl, sym, subst}
use Rattle.ts_node.specs.Growing.{IsPart}
use Rattle.ts_node.specs.Machine.{store_of}
use Rattle.ts_node.specs.Node.{member_as}
use Rattle.ts_node.proofs.Batching.{planned_next, refused_next}
use Rattle.ts_node.proofs.node.Node.stage_event.Goals as goal

pub plan_input-requires-clause-stand : goal.plan_input-requires-clause-stand
plan_input-requires-clause-stand g c = (c.args.self.now.kept.facts ++ c.args.staged.now.facts.items, c.requires.staged.stand)

pub plan_input-requires-clause-part : goal.plan_input-requires-clause-part
plan_input-requires-clause-part g c = subst (IsPart (g.M.Machine.commands c.args.self.now.machine)) (sym c.requires.staged.stand.log) c.requires.staged.part

pub returns-in-Err-clause-staged : goal.returns-in-Err-clause-staged
returns-in-Err-clause-staged g c = λ up.
    let w = c.requires.staged in
    let stand = c.plan_input.ensures.same.stand (c.args.self.now.kept.facts ++ c.args.staged.now.facts.items) w.stand in
    record {
      opens = w.opens;
      whose = w.whose
          ∙ ap member_as (sym c.plan_input.ensures.same.config);
      stand = stand;
      part =
          subst (IsPart (g.M.Machine.commands c.plan_input.new.machine)) stand.log
          c.plan_input.ensures.part;
    }

pub stage_plan-requires-clause-staged : goal.stage_plan-requires-clause-staged
stage_plan-requires-clause-staged g c =
    let w = c.requires.staged in
    let stand = c.plan_input.ensures.same.stand (c.args.self.now.kept.facts ++ c.args.staged.now.facts.items) w.stand in
    record {
      opens = w.opens;
      whose = w.whose
          ∙ ap member_as (sym c.plan_input.ensures.same.config);
      stand = stand;
      part =
          subst (IsPart (g.M.Machine.commands c.plan_input.new.machine)) stand.log
          c.plan_input.ensures.part;
    }

pub returns-in-Err-clause-next : goal.returns-in-Err-clause-next
returns-in-Err-clause-next g c =
    let old = c.args.self.now in
    let m = g.M.Machine in
    let same = c.plan_input.ensures.same in
    refused_next g.C.Codec.octets (store_of g.row.M-Question.Denot m.client_id m.outcome) m.basis
    m.is_answer old (record old
    { roles = c.plan_input.new.self; machine = c.plan_input.new.machine })
    c.args.staged.now.facts.items c.args.input.now c.requires.event same.config
    c.plan_input.ensures.basis refl
    c.plan_input.new.self c.args.staged.now.facts.items refl same.volatile c.in-Err.fault c.requires.staged.stand c.in-Err.ensures.step c.requires.still

pub returns-in-Ok-clause-next : goal.returns-in-Ok-clause-next
returns-in-Ok-clause-next g c =
    let old = c.args.self.now in
    let m = g.M.Machine in
    let same = c.plan_input.ensures.same in
    planned_next g.C.Codec.octets (store_of g.row.M-Question.Denot m.client_id m.outcome) m.basis
    m.is_answer old c.args.staged.now.facts.items c.args.input.now c.requires.event
    c.requires.staged.stand c.plan_input.new.self c.plan_input.new.machine same.config same.volatile
    same.stand c.in-Ok.plan c.in-Ok.reply c.in-Ok.ensures.step
    c.stage_plan.result c.stage_plan.new.staged.facts.items c.stage_plan.new.self c.requires.still
    c.stage_plan.ensures.kept (c.stage_plan.ensures.config ∙ same.config)
    (c.stage_plan.ensures.basis ∙ c.plan_input.ensures.basis) c.stage_plan.ensures.planned
