-- A name that is looked up in the tables of every source.
use Rattle.ts_name.specs.General.{GeneralName, directoryName}
use Rattle.ts_name.specs.GeneralView.{general_in}
use Rattle.ts_name.specs.NameView.{rdns_in}
use Rattle.ts_constraint.specs.declared.sought.SoughtName.{SoughtName}
use Rattle.ts_constraint.specs.declared.sought.SoughtName.TheVariants.{Directory, Other}

-- the name
abbrev pub name_in : SoughtName → GeneralName
name_in (Directory d) = directoryName (rdns_in d.name)
name_in (Other name) = general_in name
