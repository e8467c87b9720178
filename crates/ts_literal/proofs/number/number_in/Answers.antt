-- A text writes one number, which is out of range.
use Rattle.std.proofs.Common.{◌<◌, rules, inl, inr}
use Rattle.ts_literal.specs.Literals.{IsNumber}
use Rattle.ts_literal.proofs.Numbers.{number_out}
use Rattle.ts_literal.proofs.number.number_in.Goals as goal
use Rattle.ts_literal.proofs.number.number_in.Goals.{then-number-least-via-then-number-least, then-number-least-via-else-number-least+then-most-number}

pub returns-then-number-least : goal.returns-then-number-least
returns-then-number-least c = λ n is.
    let written : IsNumber c.args.text.now c.in_ok-number.number = search rules in
    elim c.then-number-least.branch [
      | then-number-least-via-then-number-least w ↦
          let low : c.in_ok-number.number < c.args.least = search rules in
          number_out c.args.least c.args.most c.args.text.now c.in_ok-number.number n written (inl low) is
      | then-number-least-via-else-number-least+then-most-number w ↦
          let high : c.args.most < c.in_ok-number.number = search rules in
          number_out c.args.least c.args.most c.args.text.now c.in_ok-number.number n written (inr high) is
    ]
