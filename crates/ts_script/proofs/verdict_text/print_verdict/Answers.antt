-- The words between.
use Rattle.std.proofs.Common.{◌≡◌, ◌++◌, codes, string_bytes}
use Rattle.std.proofs.lemmas.Result.{IfOk-weaker}
use Rattle.ts_script.specs.CheckLine.{IsVerdictText}
use Rattle.ts_script.proofs.verdict_text.print_verdict.Goals as goal

pub returns : goal.returns
returns c =
    let words = string_bytes c.in_ok-words.words in
    IfOk-weaker c.format.result (λ text. string_bytes text ≡ codes "check " ++ (words ++ codes "\n")) (λ text. IsVerdictText (string_bytes text))
    (λ text e. (words, e)) c.format.ensures.ok
