use Rattle.std.proofs.Common.{◌≡◌, List, ◌++◌}
use Rattle.ts_shape.specs.Items.{of_tag, items_at}
use Rattle.ts_name.specs.Subtree.{GeneralSubtree, subtree_of}
use Rattle.ts_ext.specs.NameViews.{subtrees_in}
use Rattle.ts_constraint.specs.Source.{bases}
use Rattle.ts_constraint.specs.View.{bases_in}
use Rattle.ts_constraint.proofs.source.gather.Given as goal

abbrev pub invariant-loop-subtree : goal.invariant-loop-subtree
invariant-loop-subtree l =
    (goal.iterator-loop-subtree).can_next l.subtree-iterator × (goal.iterator-loop-subtree).is_finite l.subtree-iterator
    × (front : List GeneralSubtree) × (subtrees_in l.fn.list ≡ front ++ items_at (of_tag 0x30 subtree_of) l.subtree-iterator.rest) × (bases_in l.subtrees.items ≡ bases front)
