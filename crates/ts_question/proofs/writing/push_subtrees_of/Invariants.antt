use Rattle.std.proofs.Common.{◌≡◌, ◌++◌, take, map}
use Rattle.std.specs.List.{flat_map}
use Rattle.ts_codec.specs.Parts.{blob16}
use Rattle.ts_question.proofs.writing.push_subtrees_of.Given as goal

abbrev pub invariant-loop-subtree : goal.invariant-loop-subtree
invariant-loop-subtree l = l.out.items ≡ l.fn.out.items ++ flat_map blob16 (map (λ s. s.items) (take l.subtree-index l.subtrees))
