use Rattle.ts_der.specs.View.{now}
use Rattle.ts_crl.proofs.Borrowing.{signed-kept, whole-kept}
use Rattle.ts_crl.proofs.kept.list_in.Goals as goal

pub signed_in-requires : goal.signed_in-requires
signed_in-requires c =
    signed-kept c.args.first c.args.octets.now c.new-reader.result (now c.in_ok-element.field-0)
    c.element.new.self c.new-reader.ensures c.in_ok-element.ensures.exact c.requires.list
    (whole-kept c.args.octets.now c.requires.list c.requires.shape) c.requires.entries
