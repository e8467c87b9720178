-- A number is text that is parsed, and what it is parsed as is written so.
use Rattle.std.proofs.Common.{rules, ◌≡◌, ◌<◌, ◌^◌, Ok}
use Rattle.std.specs.Fmt.{decimal}
use Rattle.ts_literal.proofs.Numbers.{IsNumber-parsed, number_read, refused_ok}
use Rattle.ts_literal.proofs.number.number_of.Goals as goal

pub returns-in_err-number : goal.returns-in_err-number
returns-in_err-number c =
    rw c.from_residual.ensures (λ n is.
    let parsed = IsNumber-parsed c.args.text.now n c.parse.result is c.parse.ensures.value.0 in
    refused_ok c.parse.result c.ok.result n c.ok.ensures.variant c.in_err-number.was parsed)

pub returns : goal.returns
returns c =
    let encodes : c.format.result.now ≡ decimal c.in_ok-number.number = search rules in
    let small : c.in_ok-number.number < 2 ^ 32 = search rules in
    let gives : c.parse.result ≡ Ok c.in_ok-number.number = search rules in
    rw c.then_some.ensures
    (number_read c.args.text.now c.format.result.now c.in_ok-number.number c.eq.result encodes small c.eq.ensures
    (λ n is.
    let parsed = IsNumber-parsed c.args.text.now n c.parse.result is c.parse.ensures.value.0 in
    cc))
