-- Subtrees that are read.
use Rattle.std.proofs.Common.{◌≡◌, ℕ, List, sym, ap}
use Rattle.std.specs.Result.{result_unwrap_or}
use Rattle.ts_name.specs.Subtree.{GeneralSubtree, IsConstraint}
use Rattle.ts_name.proofs.Subtrees.{constraint-again}
use Rattle.ts_answer.specs.Parts.{subtree_base, no_subtree}

pub is_base : (octets : List ℕ) (s : GeneralSubtree) → IsConstraint octets s → s.base ≡ subtree_base octets
is_base octets s is = sym (ap (λ r. (result_unwrap_or r no_subtree).base) (constraint-again octets s is))
