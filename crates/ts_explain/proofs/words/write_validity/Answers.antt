use Rattle.std.proofs.Common.{◌++◌, ◌∙◌, ap, List, ℕ, refl}
use Rattle.std.proofs.lemmas.Result.{on_ok_weaker}
use Rattle.ts_line.specs.Lines.{printable}
use Rattle.ts_explain.proofs.Parts.{two_parts}
use Rattle.ts_explain.proofs.words.write_validity.Goals as goal

pub returns : goal.returns
returns c =
    let words = printable c.args.words.now in
    on_ok_weaker c.write_moment.result
    (λ m.
    (words ++ m.0, (m.0, m.1, refl), two_parts c.args.line.now _ _ words m.0 (c.in_ok-text.ensures ∙ ap (λ (t : List ℕ). c.args.line.now ++ printable t) c.as_bytes.ensures.value) m.2))
    c.write_moment.ensures
