use Rattle.std.proofs.Common.{◌++◌, ◌∙◌, ap}
use Rattle.std.specs.Prelude.{codes}
use Rattle.std.proofs.lemmas.Result.{on_ok_weaker}
use Rattle.ts_line.specs.Names.{name_text}
use Rattle.ts_explain.proofs.Parts.{two_parts}
use Rattle.ts_explain.proofs.words.write_issuer.Goals as goal

pub returns : goal.returns
returns c =
    on_ok_weaker c.text-2.result
    (λ last.
    two_parts c.args.line.now _ _ _ _ c.in_ok-text.ensures (two_parts _ _ _ _ _ c.in_ok-write_name.ensures last)
    ∙ ap (λ n. c.args.line.now ++ (codes "has the issuer " ++ (name_text n
    ++ codes ", which is not the subject above it"))) c.issuer.ensures)
    c.text-2.ensures
