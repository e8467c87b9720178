-- A number is text.
use Rattle.std.proofs.Common.{rules, arith}
use Rattle.std.proofs.lemmas.Grind.{common_steps}
use Rattle.std.specs.Str.{IsUtf8}
use Rattle.ts_literal.proofs.Numbers.{IsNumber-IsUtf8}
use Rattle.ts_literal.proofs.number.number_of_octets.Goals as goal

pub returns-in_err-text : goal.returns-in_err-text
returns-in_err-text c =
    rw c.from_residual.ensures (λ n is.
    let text : IsUtf8 c.args.word.now = IsNumber-IsUtf8 c.args.word.now n is in
    first_of (search rules, grind (arith, common_steps)))
