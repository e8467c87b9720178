use Rattle.std.proofs.Common.{refl, sym, ◌∙◌}
use Rattle.ts_cli.proofs.Addresses.{addressed, by_host}
use Rattle.ts_cli.proofs.values.is_address.Goals as goal

pub returns-then-is_some : goal.returns-then-is_some
returns-then-is_some c = (λ _. by_host c.args.text.now c.address_of.result c.address_of.ensures (sym c.is_some.ensures ∙ c.if-is_some.true), λ _. refl)

pub returns : goal.returns
returns c = addressed c.args.text.now c.address_of.result c.parse.result c.is_some.result
    c.is_ok.result c.address_of.ensures c.parse.ensures.value c.is_some.ensures
    c.is_ok.ensures.value c.if-is_some.false
