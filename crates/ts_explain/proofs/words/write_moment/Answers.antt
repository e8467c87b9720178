use Rattle.std.proofs.Common.{◌∙◌, sym, ap, List, ℕ, Option, []}
use Rattle.std.specs.Prelude.{unwrap_or}
use Rattle.std.proofs.lemmas.Result.{on_ok_weaker}
use Rattle.ts_line.specs.Lines.{printable}
use Rattle.ts_explain.proofs.words.write_moment.Goals as goal

pub returns-in_default : goal.returns-in_default
returns-in_default c =
    on_ok_weaker c.text.result
    (λ is.
    (printable c.as_bytes.result.now, λ general named. ap (λ (o : Option (List ℕ)). printable (unwrap_or o c.as_bytes.result.now)) (sym c.in_default.is ∙ c.moment_text.ensures general named), is))
    c.text.ensures

pub returns : goal.returns
returns c =
    on_ok_weaker c.text-2.result
    (λ is. (printable c.in-Some.text, λ general named. ap (λ (o : Option (List ℕ)). printable (unwrap_or o [])) (c.in-Some.ensures general named), is))
    c.text-2.ensures
