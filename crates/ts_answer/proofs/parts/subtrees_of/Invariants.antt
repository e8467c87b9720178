use Rattle.std.proofs.Common.{◌≡◌, map, take, drop}
use Rattle.ts_constraint.specs.View.{bases_in}
use Rattle.ts_answer.specs.Parts.{subtree_base, first_subtree}
use Rattle.ts_answer.proofs.parts.subtrees_of.Given as goal

abbrev pub invariant-loop-octets : goal.invariant-loop-octets
invariant-loop-octets l =
    record {
      left : first_subtree (map (λ s. s.items) l.strings) ≡ first_subtree
          (map (λ s. s.items) (drop l.octets-index l.strings));
      read : bases_in l.subtrees.items ≡ map
          subtree_base (map (λ s. s.items) (take l.octets-index l.strings));
    }
