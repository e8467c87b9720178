use Rattle.std.proofs.Common.{◌++◌, ◌∙◌, ap, List, ℕ}
use Rattle.std.specs.Prelude.{codes}
use Rattle.std.proofs.lemmas.Result.{on_ok_weaker}
use Rattle.ts_line.specs.Lines.{printable}
use Rattle.ts_explain.proofs.Parts.{two_parts}
use Rattle.ts_explain.proofs.words.write_revoked.Goals as goal

pub returns : goal.returns
returns c =
    on_ok_weaker c.text-2.result
    (λ last.
    two_parts c.args.line.now _ _ _ _ c.in_ok-text.ensures last
    ∙ ap (λ (t : List ℕ). c.args.line.now ++ (codes "is revoked: " ++ printable t))
    (c.as_bytes.ensures.value ∙ c.revocation_words.ensures))
    c.text-2.ensures
