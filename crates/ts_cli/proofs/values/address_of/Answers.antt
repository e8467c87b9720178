-- A text without a colon has nothing after one.
use Rattle.std.proofs.Common.{◌≡◌, ◌==◌, rules, length}
use Rattle.std.specs.List.{position_or_len}
use Rattle.ts_cli.proofs.Encodings.{no_port}
use Rattle.ts_cli.proofs.values.address_of.Goals as goal

pub returns-in_err-host : goal.returns-in_err-host
returns-in_err-host c =
    let none : position_or_len (λ octet. octet == 58) c.args.text.now ≡ length c.args.text.now = search rules in
    rw c.from_residual.ensures (λ host port. no_port c.args.text.now host port none)
