-- What the tables of a list of bases have to say.
use Rattle.std.specs.Prelude.{◌≡◌, ◌↔◌, ℕ, IsTrue, List}
use Rattle.ts_name.specs.Canon.{Attr}
use Rattle.ts_name.specs.General.{GeneralName, dNSName, directoryName}
use Rattle.ts_name.specs.Holds.{Holds}
use Rattle.ts_name.specs.Sameness.{canon_name}
use Rattle.ts_constraint.specs.declared.directory.Directory.{Directory}
use Rattle.ts_constraint.specs.declared.form.Form.{Form}
use Rattle.ts_constraint.specs.declared.hosts.Hosts.{Hosts}
use Rattle.ts_constraint.specs.declared.ranges.Ranges.{Ranges}
use Rattle.ts_constraint.specs.Conditions.{Some_of}
use Rattle.ts_constraint.specs.inside.Directories.{has_directory}
use Rattle.ts_constraint.specs.inside.Hosts.{has_host}
use Rattle.ts_constraint.specs.Names.{form_of}
use Rattle.ts_constraint.specs.inside.RangeTable.{AreRanges}

-- these are the forms of the bases
abbrev pub AreForms : List Form → List GeneralName → Type 0
AreForms forms bases = (form : Form)
    → Some_of (λ f. f ≡ form) forms ↔ Some_of (λ base. form_of base ≡ form) bases

-- a host lies in one of these domains exactly where it lies in one of the bases
abbrev pub AreHosts : Hosts → List GeneralName → Type 0
AreHosts hosts bases = (host : List ℕ)
    → IsTrue (has_host hosts host) ↔ Some_of (λ base. Holds base (dNSName host)) bases

-- so with a distinguished name and these names
abbrev pub AreDirectories : List Directory → List GeneralName → Type 0
AreDirectories directories bases = (name : List (List Attr))
    → IsTrue (has_directory directories (canon_name name))
    ↔ Some_of (λ base. Holds base (directoryName name)) bases

pub record AreTables (bases : List GeneralName) (forms : List Form) (hosts : Hosts)
    (directories : List Directory) (ranges : Ranges) : Type 0 where
  pub forms_are : AreForms forms bases
  pub hosts_are : AreHosts hosts bases
  pub directories_are : AreDirectories directories bases
  pub ranges_are : AreRanges ranges bases
