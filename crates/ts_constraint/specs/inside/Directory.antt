-- Directory names that are looked up among the bases of constraints, each by its canonical form.
use Rattle.std.specs.Prelude.{List, [], ◌∷◌}
use Rattle.std.specs.Cmp.Lexicographic.{slice_cmp}
use Rattle.std.specs.List.{flat_map}
use Rattle.std.specs.declared.cmp.Ordering.{Ordering}
use Rattle.ts_name.specs.Canon.{CanonAttr, compare_attrs}
use Rattle.ts_name.specs.General.{GeneralName, otherName, rfc822Name, dNSName, x400Address}
use Rattle.ts_name.specs.General.{directoryName, ediPartyName, uniformResourceIdentifier, iPAddress}
use Rattle.ts_name.specs.General.{registeredID}
use Rattle.ts_name.specs.Sameness.{canon_name}

-- the order of relative distinguished names in canonical form: by their attributes in ascending
-- order
abbrev pub compare_rdns : List CanonAttr → List CanonAttr → Ordering
compare_rdns a b = slice_cmp compare_attrs a b

-- the directory name that a base is, if it is one
abbrev pub directory_form : GeneralName → List (List (List CanonAttr))
directory_form (directoryName rdns) = canon_name rdns ∷ []
directory_form base = []

abbrev pub directory_forms : List GeneralName → List (List (List CanonAttr))
directory_forms bases = flat_map directory_form bases
