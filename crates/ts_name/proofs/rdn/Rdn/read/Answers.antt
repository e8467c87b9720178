use Rattle.std.proofs.Common.{◌≡◌, refl}
use Rattle.ts_der.specs.View.{now}
use Rattle.ts_name.specs.NameEncoding.{IsRdnContent}
use Rattle.ts_name.specs.NameView.{attributes_in}
use Rattle.ts_shape.proofs.Walks.{IfOk-answers, IsOkAnd-answers}
use Rattle.ts_shape.proofs.Judging.{about-judged}
use Rattle.ts_name.proofs.NameJudging.{rdn-judged}
use Rattle.ts_name.proofs.Shapes.{rdn-codec}
use Rattle.ts_name.proofs.rdn.Rdn.read.Goals as goal

pub returns-clause-found : goal.returns-clause-found
returns-clause-found c =
    let e = now c.args.element in
    IfOk-answers attributes_in c.read_rdn.result _ (λ attributes. IsRdnContent e.content attributes) c.read_rdn.ensures (λ attributes read. rdn-codec.found e attributes c.args.element.octets read)

pub returns-clause-only : goal.returns-clause-only
returns-clause-only c =
    λ attributes is. IsOkAnd-answers attributes_in c.read_rdn.result _ attributes
    (λ xs. xs ≡ attributes) c.read_rdn.ensures
    (rdn-codec.again (now c.args.element) attributes is.1 is.0) refl

pub returns-clause-fault : goal.returns-clause-fault
returns-clause-fault c = about-judged attributes_in c.read_rdn.result _ _ (λ attributes. Unit {0}) c.read_rdn.ensures (rdn-judged (now c.args.element))
