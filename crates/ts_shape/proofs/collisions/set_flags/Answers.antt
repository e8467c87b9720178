use Rattle.std.proofs.Common.{◌<◌, ◌∙◌, true, length, arith}
use Rattle.std.proofs.lemmas.List.{length-set}
use Rattle.ts_shape.specs.inside.Collisions.{flag_of}
use Rattle.ts_shape.proofs.KeyTables.{flagged-next}
use Rattle.ts_shape.proofs.collisions.set_flags.Goals as goal

pub loop-key-preserved : goal.loop-key-preserved
loop-key-preserved g c =
    let flags = c.loop-key.flags in
    let i = c.loop-key.invariant in
    let many = i.0 in
    let within = c.flag_of.ensures.within in
    let lt : c.flag_of.result < length flags = omega arith in (
      length-set flags c.flag_of.result true ∙ i.0,
      flagged-next (flag_of g.row.M c.args.factor) flags c.args.table.now c.loop-key.key-index c.flag_of.result _ c.loop-key-test.true c.flag_of.ensures.flag lt i.1,
    )
