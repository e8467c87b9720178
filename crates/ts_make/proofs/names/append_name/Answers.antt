use Rattle.std.specs.List.{flat_map}
use Rattle.std.proofs.lemmas.Result.{err_from_is_err_and}
use Rattle.ts_name.specs.NameEncoding.{encoded_rdn}
use Rattle.ts_make.specs.Description.{rdns_in}
use Rattle.ts_make.specs.Made.{name_octets}
use Rattle.ts_make.proofs.TooLong.{longer, content-within, names-front}
use Rattle.ts_make.proofs.names.append_name.Goals as goal

pub returns-in_err-append_rdn-clause-exact : goal.returns-in_err-append_rdn-clause-exact
unfolding name_octets
returns-in_err-append_rdn-clause-exact c =
    let p = err_from_is_err_and c.from_residual.result c.from_residual.ensures.1 in
    let names = flat_map encoded_rdn (rdns_in c.args.rdns.now) in
    let h = rw c.loop-rdn.invariant.written at c.in_err-append_rdn.ensures.exact in
    let front = names-front c.args.rdns.now c.loop-rdn.rdn-index _ c.loop-rdn-test.true in
    rw (p.1, p.2) (longer c.in_err-append_rdn.field-0.0 _ _ (longer c.in_err-append_rdn.field-0.0 _ names h front) (content-within c.args.octets.now.items 0x30 names))
