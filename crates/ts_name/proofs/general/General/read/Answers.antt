use Rattle.std.proofs.Common.{◌≡◌, refl}
use Rattle.ts_der.specs.View.{now}
use Rattle.ts_name.specs.General.{IsForm, general_of}
use Rattle.ts_name.specs.GeneralView.{general_in}
use Rattle.ts_shape.proofs.Walks.{IfOk-answers, IsOkAnd-answers}
use Rattle.ts_name.proofs.Generals.{general-found, general-again, general-judged}
use Rattle.ts_shape.proofs.Judging.{about-judged}
use Rattle.ts_name.proofs.general.General.read.Goals as goal

pub returns-clause-found : goal.returns-clause-found
returns-clause-found c =
    let e = now c.args.element in
    IfOk-answers general_in c.read_general.result _ (λ name. IsForm e.tag e.content name) c.read_general.ensures (λ name read. general-found e name c.args.element.octets read)

pub returns-clause-only : goal.returns-clause-only
returns-clause-only c = λ name is.
    IsOkAnd-answers general_in c.read_general.result _ name (λ read. read ≡ name) c.read_general.ensures (general-again (now c.args.element) name is) refl

pub returns-clause-fault : goal.returns-clause-fault
returns-clause-fault c = about-judged general_in c.read_general.result (general_of (now c.args.element)) _ _ c.read_general.ensures (general-judged (now c.args.element))
