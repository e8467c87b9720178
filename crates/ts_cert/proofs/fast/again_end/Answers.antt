use Rattle.std.proofs.Common.{◌-◌, take, drop, length, sym, ◌∙◌, arith}
use Rattle.std.proofs.lemmas.List.{take_rest, length-drop}
use Rattle.std.proofs.lemmas.Slice.Eq.{bytes_eq-Decides}
use Rattle.ts_cert.proofs.Spanned.{repeated}
use Rattle.ts_cert.proofs.fast.again_end.Goals as goal

pub returns : goal.returns
returns c =
    let octets = c.args.octets.now in
    let at = c.args.at in
    let size = c.args.to - c.args.from in
    let rest = take_rest octets at in
    let equal = (bytes_eq-Decides (take size (take (length octets - at) (drop at octets))) (take size (drop c.args.from octets))).0 (sym c.are_equal.ensures ∙ c.if-not-are_equal.false) in
    let fits = rw rest at c.if-rest-size.false in
    repeated octets at c.args.from c.args.to (rw rest at equal) c.requires.from c.requires.to (omega (arith, fits, length-drop at octets, c.requires.at))
