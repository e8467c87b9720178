use Rattle.std.proofs.Common.{◌≡◌, refl, ◌∙◌, arith}
use Rattle.ts_name.specs.Subtree.{GeneralSubtree, IsConstraint, constraint_of}
use Rattle.ts_name.specs.SubtreeView.{subtree_in}
use Rattle.ts_shape.proofs.Walks.{IfOk-answers, IsOkAnd-answers}
use Rattle.ts_name.proofs.Subtrees.{constraint-found, constraint-again, constraint-refusal, refusal-answers}
use Rattle.ts_name.proofs.subtree.Subtree.read.Goals as goal

pub returns-clause-found : goal.returns-clause-found
returns-clause-found c =
    IfOk-answers subtree_in c.read_constraint.result _ (λ subtree. IsConstraint c.args.octets.now subtree) c.read_constraint.ensures
    (λ subtree read. constraint-found c.args.octets.now subtree (λ i. omega (arith, c.type_inv.octets i)) read)

pub returns-clause-only : goal.returns-clause-only
returns-clause-only c = λ subtree is.
    IsOkAnd-answers subtree_in c.read_constraint.result _ subtree (λ (read : GeneralSubtree). read ≡ subtree) c.read_constraint.ensures (constraint-again c.args.octets.now subtree is) refl

pub returns-clause-fault : goal.returns-clause-fault
returns-clause-fault c = refusal-answers subtree_in c.read_constraint.result (constraint_of c.args.octets.now) c.read_constraint.ensures ∙ constraint-refusal c.args.octets.now
