-- Tables of directory names.
use Rattle.std.specs.Prelude.{Bool, List}
use Rattle.ts_name.specs.Canon.{CanonAttr}
use Rattle.ts_name.specs.NameView.{rdns_in}
use Rattle.ts_name.specs.Sameness.{canon_name}
use Rattle.ts_constraint.specs.declared.directory.Directory.{Directory}
use Rattle.ts_constraint.specs.inside.Directory.{compare_rdns}
use Rattle.ts_constraint.specs.inside.Fronts.{has_front}

-- the canonical form of a name
abbrev pub form_in : Directory → List (List CanonAttr)
form_in d = canon_name (rdns_in d.name)

-- whether a name lies in the subtree of one of these
abbrev pub has_directory : List Directory → List (List CanonAttr) → Bool
has_directory entries name = has_front compare_rdns form_in entries name
