-- The text is the one that names the moment, if there is one.
use Rattle.std.proofs.Common.{rules, ◌≡◌, ◌∙◌, sym, ap, List, ℕ, Option, []}
use Rattle.std.specs.Prelude.{unwrap_or}
use Rattle.std.proofs.lemmas.Result.{on_ok_weaker}
use Rattle.ts_line.specs.Lines.{printable}
use Rattle.ts_line.proofs.time.write_moment.Goals as goal

pub returns-in-Some : goal.returns-in-Some
returns-in-Some c =
    let all : c.as_slice.result.now ≡ c.in-Some.text = search rules in
    on_ok_weaker c.text.result
    (λ is. (
      printable c.as_slice.result.now,
      λ general named. ap printable all ∙ ap (λ (o : Option (List ℕ)). printable (unwrap_or o [])) (sym c.in-Some.is ∙ c.print_general.ensures.only general (search (rules, named))),
      is,
    ))
    c.text.ensures

pub returns-in_ok-digits-in-None : goal.returns-in_ok-digits-in-None
returns-in_ok-digits-in-None c =
    on_ok_weaker c.text-in-None.result
    (λ is. (
      printable c.as_bytes.result.now,
      λ general named. ap (λ (o : Option (List ℕ)). printable (unwrap_or o c.as_bytes.result.now)) (sym c.in-None.is ∙ c.print_general.ensures.only general (search (rules, named))),
      is,
    ))
    c.text-in-None.ensures
