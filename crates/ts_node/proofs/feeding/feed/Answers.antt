use Rattle.std.proofs.Common.{◌<◌, ◌++◌, ◌∷◌, ◌∙◌, [], length, ap, sym, arith}
use Rattle.std.specs.Option.{option_copied}
use Rattle.ts_synod.specs.Log.{prefix}
use Rattle.ts_log.specs.Log.{learned_of}
use Rattle.ts_node.proofs.Prefix.{most, part_length, prefix_none, prefix_take}
use Rattle.ts_node.proofs.feeding.feed.Goals as goal
use Rattle.ts_node.proofs.feeding.feed.Goals.{in-Some+in_ok-push, in_default}

pub push-requires : goal.push-requires
push-requires g c =
    let f = learned_of c.args.log.now in
    let l : c.loop-taken.taken < length (prefix f) = omega arith in
    let n = part_length f c.loop-taken.taken (g.M.Machine.commands c.loop-taken.machine) (omega arith) c.loop-taken.invariant.taken in
    let m = most f in
    omega arith

pub loop-taken-preserved : goal.loop-taken-preserved
loop-taken-preserved g c =
    let commands = g.M.Machine.commands in
    let f = learned_of c.args.log.now in
    let i = c.loop-taken.taken in
    let l : i < length (prefix f) = omega arith in
    elim c.match-command.branch [
      | in-Some+in_ok-push w ↦ record {
        taken = ap commands w.machine-is ∙ w.in_ok-push.ensures.pushed
            ∙ ap (λ cs. cs ++ w.in-Some.command.now ∷ []) c.loop-taken.invariant.taken
            ∙ sym (prefix_take f i w.in-Some.command.now l (sym w.in-Some.ensures));
        basis = ap g.M.Machine.basis w.machine-is ∙ w.push.ensures.basis ∙ c.loop-taken.invariant.basis;
      }
      | in_default w ↦ absurd (prefix_none f i (option_copied c.command.result) l c.command.ensures (ap option_copied w.in_default.is))
    ]
