use Rattle.std.proofs.Common.{◌≡◌, refl}
use Rattle.ts_der.specs.View.{now}
use Rattle.ts_shape.proofs.Walks.{IfOk-answers, IsOkAnd-answers}
use Rattle.ts_shape.proofs.Judging.{about-judged}
use Rattle.ts_ext.specs.Known.{known_at}
use Rattle.ts_ext.specs.Ext.{ExtValue, IsExt}
use Rattle.ts_ext.specs.ExtView.{ext_in}
use Rattle.ts_ext.proofs.Exts.{ext-found, ext-again, ext-judged}
use Rattle.ts_ext.proofs.ext.Ext.read.Goals as goal

pub returns-clause-found : goal.returns-clause-found
returns-clause-found c =
    let known = known_at c.args.holder c.args.oid.content.now in
    let e = now c.args.octets in
    IfOk-answers ext_in c.read_ext.result _ (λ x. IsExt known e.content x) c.read_ext.ensures (λ x read. ext-found known e x c.args.octets.octets read)

pub returns-clause-only : goal.returns-clause-only
returns-clause-only c = λ x is.
    IsOkAnd-answers ext_in c.read_ext.result _ x (λ (y : ExtValue). y ≡ x) c.read_ext.ensures (ext-again (known_at c.args.holder c.args.oid.content.now) (now c.args.octets) x is) refl

pub returns-clause-fault : goal.returns-clause-fault
returns-clause-fault c = about-judged ext_in c.read_ext.result _ _ (λ x. Unit {0}) c.read_ext.ensures (ext-judged (known_at c.args.holder c.args.oid.content.now) (now c.args.octets))
