use Rattle.std.specs.List.{flat_map}
use Rattle.std.proofs.lemmas.Result.{err_from_is_err_and}
use Rattle.ts_make.specs.Extensions.{extension_octets, part_extensions}
use Rattle.ts_make.proofs.TooLong.{longer, pieces-next}
use Rattle.ts_make.proofs.extensions.append_each.Goals as goal

pub returns-in_err-append_alone : goal.returns-in_err-append_alone
returns-in_err-append_alone c =
    let p = err_from_is_err_and c.from_residual.result c.from_residual.ensures.1 in
    let h = rw c.loop-part.invariant at c.in_err-append_alone.ensures in
    let front = pieces-next (λ part. flat_map extension_octets (part_extensions c.args.kind part))
    c.args.octets.now.items c.args.parts.now c.loop-part.part-index _ c.loop-part-test.true
    c.part-item.is in
    rw (p.1, p.2) (longer c.in_err-append_alone.field-0.0 _ _ h front)
