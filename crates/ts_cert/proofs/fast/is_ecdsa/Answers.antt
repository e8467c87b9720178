use Rattle.std.proofs.Common.{◌-◌, length, take, drop, sym, ◌∙◌}
use Rattle.std.proofs.lemmas.List.{take_rest}
use Rattle.ts_cert.proofs.KnownAlgorithms.{ecdsa-spans}
use Rattle.ts_cert.proofs.fast.is_ecdsa.Goals as goal

pub returns : goal.returns
returns c told =
    let octets = c.args.octets.now in
    let rest = take (length octets - c.args.at) (drop c.args.at octets) in
    ecdsa-spans octets rest c.args.at (take_rest octets c.args.at) c.if-rest-lt16.false (sym c.lie_between.ensures ∙ told)
