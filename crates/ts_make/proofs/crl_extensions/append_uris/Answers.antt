use Rattle.std.proofs.lemmas.Result.{err_from_is_err_and}
use Rattle.ts_make.specs.CrlExtensions.{uri_octets}
use Rattle.ts_make.proofs.TooLong.{longer, pieces-front}
use Rattle.ts_make.proofs.crl_extensions.append_uris.Goals as goal

pub returns-in_err-append_element : goal.returns-in_err-append_element
returns-in_err-append_element c =
    let p = err_from_is_err_and c.from_residual.result c.from_residual.ensures.1 in
    let h = rw (c.loop-uri.invariant, c.as_bytes.ensures.value) at c.in_err-append_element.ensures in
    let front = pieces-front uri_octets c.args.octets.now.items c.args.uris.now c.loop-uri.uri-index _ c.loop-uri-test.true in
    rw (p.1, p.2) (longer c.in_err-append_element.field-0.0 _ _ h front)
