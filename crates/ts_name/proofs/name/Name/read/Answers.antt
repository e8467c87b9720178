use Rattle.std.proofs.Common.{◌≡◌, refl}
use Rattle.ts_der.specs.View.{now}
use Rattle.ts_name.specs.NameEncoding.{IsName}
use Rattle.ts_name.specs.NameView.{rdns_in}
use Rattle.ts_shape.proofs.Walks.{IfOk-answers, IsOkAnd-answers}
use Rattle.ts_shape.proofs.Judging.{about-judged, no_less}
use Rattle.ts_name.proofs.NameJudging.{name-judged}
use Rattle.ts_name.proofs.Shapes.{name-found, name-again}
use Rattle.ts_name.proofs.name.Name.read.Goals as goal

pub returns-clause-found : goal.returns-clause-found
returns-clause-found c =
    let e = now c.args.element in
    IfOk-answers rdns_in c.read_name.result _ (λ rdns. IsName e.content rdns) c.read_name.ensures (λ rdns read. name-found e rdns c.args.element.octets read)

pub returns-clause-only : goal.returns-clause-only
returns-clause-only c = λ rdns is. IsOkAnd-answers rdns_in c.read_name.result _ rdns (λ names. names ≡ rdns) c.read_name.ensures (name-again (now c.args.element) rdns is) refl

pub returns-clause-fault : goal.returns-clause-fault
returns-clause-fault c = about-judged rdns_in c.read_name.result _ _ (λ rdns. Unit {0}) c.read_name.ensures (no_less _ _ _ (name-judged (now c.args.element)))
