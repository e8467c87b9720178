use Rattle.std.proofs.Common.{◌≤◌, length, arith}
use Rattle.ts_question.proofs.Lengths.{short_at}
use Rattle.ts_question.proofs.writing.push_subtrees_of.Goals as goal

pub push_blob16-requires : goal.push_blob16-requires
push_blob16-requires c =
    let short : length c.subtree-item.result.items ≤ 65535 =
    short_at (λ s. s.items) 65535 c.args.subtrees.now c.loop-subtree.subtree-index
    c.subtree-item.result c.requires c.loop-subtree-test.true c.subtree-item.is in
    omega (arith, short)
