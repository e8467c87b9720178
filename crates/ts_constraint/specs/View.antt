-- What contracts see of subtrees that were read: the names at which they begin.
use Rattle.std.specs.Prelude.{◌≡◌, List, map}
use Rattle.ts_name.specs.declared.subtree.Subtree.{Subtree}
use Rattle.ts_name.specs.General.{GeneralName}
use Rattle.ts_name.specs.SubtreeView.{subtree_in}
use Rattle.ts_constraint.specs.Source.{Source}

abbrev pub bases_in : List Subtree → List GeneralName
bases_in subtrees = map (λ s. (subtree_in s).base) subtrees

-- a source that has these subtrees
abbrev pub AreBases : Source → List Subtree → List Subtree → Type 0
AreBases source permitted excluded =
    source ≡ record { permitted = bases_in permitted; excluded = bases_in excluded }
