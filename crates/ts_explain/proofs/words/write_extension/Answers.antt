use Rattle.std.proofs.lemmas.Result.{on_ok_weaker}
use Rattle.ts_explain.proofs.Parts.{two_parts}
use Rattle.ts_explain.proofs.words.write_extension.Goals as goal

pub returns : goal.returns
returns c =
    on_ok_weaker c.text-2.result
    (λ last. two_parts c.args.line.now _ _ _ _ c.in_ok-text.ensures (two_parts _ _ _ _ _ c.in_ok-write_oid.ensures last))
    c.text-2.ensures
