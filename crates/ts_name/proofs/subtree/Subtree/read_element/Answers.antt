use Rattle.std.proofs.Common.{◌≡◌, refl}
use Rattle.ts_der.specs.View.{now}
use Rattle.ts_name.specs.Subtree.{IsSubtree, subtree_of}
use Rattle.ts_name.specs.SubtreeView.{subtree_in}
use Rattle.ts_shape.proofs.Walks.{IfOk-answers, IsOkAnd-answers}
use Rattle.ts_shape.proofs.Judging.{no_less, about-judged}
use Rattle.ts_name.proofs.Subtrees.{subtree-found, subtree-again, subtree-judged}
use Rattle.ts_name.proofs.subtree.Subtree.read_element.Goals as goal

pub returns-clause-found : goal.returns-clause-found
returns-clause-found c =
    let e = now c.args.element in
    IfOk-answers subtree_in c.read_subtree.result _ (λ subtree. IsSubtree e.content subtree) c.read_subtree.ensures (λ subtree read. subtree-found e subtree c.args.element.octets read)

pub returns-clause-only : goal.returns-clause-only
returns-clause-only c = λ subtree is.
    IsOkAnd-answers subtree_in c.read_subtree.result _ subtree (λ read. read ≡ subtree) c.read_subtree.ensures (subtree-again (now c.args.element) subtree is) refl

pub returns-clause-fault : goal.returns-clause-fault
returns-clause-fault c = about-judged subtree_in c.read_subtree.result (subtree_of (now c.args.element)) _ _ c.read_subtree.ensures (no_less _ _ _ (subtree-judged (now c.args.element)))
