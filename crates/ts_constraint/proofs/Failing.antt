-- A name that does not meet a condition: not all do.
use Rattle.std.proofs.Common.{◌≡◌, List, [], ◌∷◌, ◌++◌, subst}
use Rattle.ts_name.specs.General.{GeneralName}
use Rattle.ts_constraint.specs.declared.form.Form.{Form}
use Rattle.ts_constraint.specs.declared.condition.Condition.{Condition}
use Rattle.ts_constraint.specs.Source.{Source}
use Rattle.ts_constraint.specs.Conditions.{EachNameMeets, NameFails, FirstNameFails}

stands_within : (condition : Condition) (sources : List Source) (before rest : List GeneralName)
    (name : GeneralName) → NameFails condition sources name
    → EachNameMeets condition sources (before ++ name ∷ rest) → ⊥
stands_within condition sources [] rest name fails meets = meets.0 fails
stands_within condition sources (x ∷ before) rest name fails meets = stands_within condition sources before rest name fails meets.1

pub not_all : (condition : Condition) (sources : List Source) (names : List GeneralName) (form : Form) → FirstNameFails condition sources names form → ¬ (EachNameMeets condition sources names)
not_all condition sources names form f meets =
    stands_within condition sources f.before f.rest f.name f.fails (subst (EachNameMeets condition sources) f.names_are meets)
