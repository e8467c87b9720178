use Rattle.std.proofs.Common.{◌-◌, length, take, drop, get_or, refl, sym, ◌∙◌}
use Rattle.std.proofs.lemmas.List.{take_rest}
use Rattle.ts_cert.proofs.KnownAlgorithms.{curve-spans}
use Rattle.ts_cert.proofs.fast.curve_end.Goals as goal

pub returns : goal.returns
returns c =
    let octets = c.args.octets.now in
    let rest = take (length octets - c.args.at) (drop c.args.at octets) in
    curve-spans octets rest c.args.at (get_or rest 1 0) (take_rest octets c.args.at)
    c.if-rest-lt16.false (sym c.lie_between.ensures ∙ c.if-not-lie_between.false) refl
    c.if-rest-size.false c.if-rest-size-2.false
