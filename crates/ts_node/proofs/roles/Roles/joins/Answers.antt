use Rattle.std.proofs.Common.{◌∙◌, ◌<◌, length, ap, sym, arith}
use Rattle.std.specs.Option.{option_copied}
use Rattle.ts_synod.specs.Log.{prefix}
use Rattle.ts_log.specs.Steps.{learned_after}
use Rattle.ts_node.proofs.Prefix.{prefix_none}
use Rattle.ts_node.proofs.Settlings.{join_hit, join_miss}
use Rattle.ts_node.proofs.roles.Roles.joins.Goals as goal
use Rattle.ts_node.proofs.roles.Roles.joins.Goals.{in-Some+else-has_this_id, in_default}

pub returns-then-has_this_id : goal.returns-then-has_this_id
returns-then-has_this_id g c =
    let f = learned_after c.args.self.now.log c.args.step.now.change in
    let i = c.loop-joined.joined in
    let l : i < length (prefix f) = omega (arith, c.requires.after) in
    sym (c.loop-joined.invariant ∙ join_hit g.M.Machine.client_id c.args.id.now f i c.in-Some.command.now l (sym c.in-Some.ensures) (sym c.has_this_id.ensures ∙ c.if-has_this_id.true))

pub loop-joined-preserved : goal.loop-joined-preserved
loop-joined-preserved g c =
    let f = learned_after c.args.self.now.log c.args.step.now.change in
    let i = c.loop-joined.joined in
    let l : i < length (prefix f) = omega (arith, c.requires.after) in
    elim c.match-command_after.branch [
      | in-Some+else-has_this_id w ↦ c.loop-joined.invariant
          ∙ join_miss g.M.Machine.client_id c.args.id.now f i w.in-Some.command.now l
          (sym w.in-Some.ensures) (sym w.has_this_id.ensures ∙ w.if-has_this_id.false)
      | in_default w ↦ absurd (prefix_none f i (option_copied c.command_after.result) l c.command_after.ensures (ap option_copied w.in_default.is))
    ]
