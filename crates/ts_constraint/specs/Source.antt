-- A source of constraints (RFC 5280 6.1.1 (h) and (i), 6.1.4 (g)): the subtrees that it permits and
-- those that it excludes.
use Rattle.std.specs.Prelude.{List, [], map, Option, Some, None}
use Rattle.ts_name.specs.General.{GeneralName}
use Rattle.ts_name.specs.Subtree.{GeneralSubtree}
use Rattle.ts_ext.specs.declared.known.Known.TheVariants as extension
use Rattle.ts_ext.specs.NameConstraints.{Constraints, name_constraints_of}
use Rattle.ts_cert.specs.Certificate.{Tbs}
use Rattle.ts_cert.specs.Stated.{stated_value}

-- each subtree by the name at which it begins
pub record Source : Type 0 where
  pub permitted : List GeneralName
  pub excluded : List GeneralName

abbrev pub bases : List GeneralSubtree → List GeneralName
bases subtrees = map (λ s. s.base) subtrees

-- no subtrees where there is no such field
abbrev pub bases_if : Option (List GeneralSubtree) → List GeneralName
bases_if None = []
bases_if (Some subtrees) = bases subtrees

-- what the extension nameConstraints says, which is nothing where it is absent
abbrev pub source_if : Option Constraints → Source
source_if None = record { permitted = []; excluded = [] }
source_if (Some c) = record {
  permitted = bases_if c.permittedSubtrees;
  excluded = bases_if c.excludedSubtrees;
}

-- what a certificate asks of the names of those that follow it
abbrev pub source_of : Tbs → Source
source_of t = source_if (stated_value extension.NameConstraints name_constraints_of t)
