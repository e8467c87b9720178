use Rattle.std.proofs.Common.{◌≡◌, ◌&&◌}
use Rattle.std.specs.Prelude.{option_map}
use Rattle.std.specs.List.{list_all}
use Rattle.ts_shape.specs.Items.{items_at, of_tag}
use Rattle.ts_name.specs.Subtree.{is_unbounded, subtree_of}
use Rattle.ts_name.specs.General.{has_range_length}
use Rattle.ts_ext.specs.NameViews.{subtrees_in}
use Rattle.ts_ext.specs.Rules.{all_of}
use Rattle.ts_ext.proofs.rules.bounds_of.Given as goal

abbrev pub invariant-loop-subtree : goal.invariant-loop-subtree
invariant-loop-subtree l =
    (all_of is_unbounded (option_map subtrees_in l.fn.subtrees) ≡ (l.bounds.are_unbounded && list_all is_unbounded (items_at (of_tag 0x30 subtree_of) l.subtree-iterator.rest)))
    × (all_of (λ s. has_range_length s.base) (option_map subtrees_in l.fn.subtrees) ≡
    (l.bounds.have_range_length
    && list_all (λ s. has_range_length s.base)
    (items_at (of_tag 0x30 subtree_of) l.subtree-iterator.rest)))
