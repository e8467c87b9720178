use Rattle.std.proofs.lemmas.List.{take_rest}
use Rattle.ts_der.proofs.Standing.{element-alone}
use Rattle.ts_extensions.proofs.fast.content_of.Goals as goal

pub returns : goal.returns
returns c =
    let bounds = c.in_ok-bounds.bounds in
    rw (take_rest c.args.octets.now bounds.start) (element-alone c.args.octets.now c.args.tag bounds c.in_ok-bounds.ensures.stands c.if-bounds-octets.false)
