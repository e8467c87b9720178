use Rattle.ts_sig.specs.Key.{key_of}
use Rattle.ts_memo.proofs.Questions.{right}
use Rattle.ts_memo.proofs.memo.Memo.good.Goals as goal

pub keep-requires : goal.keep-requires
keep-requires c = right c.in-Some.question c.good-good.result c.args.algorithm.now
    (key_of c.args.key.now) c.args.signed.now.octets.now c.args.signature.now
    c.in-Some.ensures c.good-good.ensures
