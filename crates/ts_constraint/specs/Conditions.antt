-- The conditions that sources of constraints put on the names of a certificate (RFC 5280 4.2.1.10,
-- 6.1.3 (b) and (c)).
use Rattle.std.specs.Prelude.{◌≡◌, Bool, true, false, List, [], ◌∷◌, ◌++◌, ◌⊎◌, Option, Some, None}
use Rattle.std.specs.Prelude.{Result, Ok, Err}
use Rattle.std.specs.List.{AllByRecursion}
use Rattle.ts_name.specs.General.{GeneralName}
use Rattle.ts_name.specs.Holds.{Holds}
use Rattle.ts_name.specs.Sameness.{canon_name}
use Rattle.ts_cert.specs.Certificate.{Tbs}
use Rattle.ts_constraint.specs.declared.form.Form.{Form}
use Rattle.ts_constraint.specs.declared.fault.NameFault.{NameFault}
use Rattle.ts_constraint.specs.declared.fault.NameFault.TheVariants.{Unsupported, NotPermitted}
use Rattle.ts_constraint.specs.declared.fault.NameFault.TheVariants.{Excluded}
use Rattle.ts_constraint.specs.declared.condition.Condition.{Condition}
use Rattle.ts_constraint.specs.declared.condition.Condition.TheVariants.{Supported, Permitted}
use Rattle.ts_constraint.specs.declared.condition.Condition.TheVariants.{NotExcluded}
use Rattle.ts_constraint.specs.Names.{form_of, is_processed_form}
use Rattle.ts_constraint.specs.Source.{Source}

-- one of a list has a property
abbrev pub Some_of : {A : Type 0} → (A → Type 0) → List A → Type 0
Some_of P [] = ⊥
Some_of P (x ∷ xs) = P x ⊎ Some_of P xs

-- none of a list has it
abbrev pub None_of : {A : Type 0} → (A → Type 0) → List A → Type 0
None_of P xs = AllByRecursion (λ x. P x → ⊥) xs

-- a subtree of the name's form
abbrev pub HasForm : GeneralName → GeneralName → Type 0
HasForm name base = form_of base ≡ form_of name

-- what it means that a name does not meet a condition of a source:
abbrev pub FailsAt : Condition → GeneralName → Source → Type 0
-- the source has a subtree of the name's form, which this profile does not process, so that the
-- certificate has to be refused (4.2.1.10)
FailsAt Supported name source = (is_processed_form (form_of name) ≡ false)
    × Some_of (HasForm name) (source.permitted ++ source.excluded)
-- the source permits subtrees of the name's form, which is processed, and the name lies in none of
-- them (6.1.3 (b))
FailsAt Permitted name source =
    (is_processed_form (form_of name) ≡ true) × Some_of (HasForm name) source.permitted
    × None_of (λ base. Holds base name) source.permitted
-- the name lies in a subtree that the source excludes (6.1.3 (c))
FailsAt NotExcluded name source = Some_of (λ base. Holds base name) source.excluded

-- a name does not meet a condition of one of the sources
abbrev pub NameFails : Condition → List Source → GeneralName → Type 0
NameFails condition sources name = Some_of (FailsAt condition name) sources

-- each name meets a condition of each source
abbrev pub EachNameMeets : Condition → List Source → List GeneralName → Type 0
EachNameMeets condition sources names = None_of (NameFails condition sources) names

-- the three conditions, of all names
abbrev pub AreSupported : List Source → List GeneralName → Type 0
AreSupported sources names = EachNameMeets Supported sources names

abbrev pub ArePermitted : List Source → List GeneralName → Type 0
ArePermitted sources names = EachNameMeets Permitted sources names

abbrev pub AreNotExcluded : List Source → List GeneralName → Type 0
AreNotExcluded sources names = EachNameMeets NotExcluded sources names

-- the first name that does not meet a condition, by its form
pub record FirstNameFails (condition : Condition) (sources : List Source) (names : List GeneralName)
    (form : Form) : Type 0 where
  pub before : List GeneralName
  pub name : GeneralName
  pub rest : List GeneralName
  pub names_are : names ≡ before ++ name ∷ rest
  pub meet : EachNameMeets condition sources before
  pub fails : NameFails condition sources name
  pub form_is : form ≡ form_of name

-- all three conditions are met, or the fault is the least that is not, with the form of the first
-- name that does not meet it
abbrev pub IsBoundsAnswer : List Source → List GeneralName → Result (Unit {0}) NameFault → Type 0
IsBoundsAnswer sources names (Ok _) = EachNameMeets Supported sources names × EachNameMeets
    Permitted sources names
    × EachNameMeets NotExcluded sources names
IsBoundsAnswer sources names (Err (Unsupported form)) = FirstNameFails Supported sources names form
IsBoundsAnswer sources names (Err (NotPermitted form)) =
    EachNameMeets Supported sources names × FirstNameFails Permitted sources names form
IsBoundsAnswer sources names (Err (Excluded form)) = EachNameMeets Supported sources names
    × EachNameMeets Permitted sources names × FirstNameFails NotExcluded sources names form

-- constraints do not bear on a self-issued certificate, unless it is the last of the chain (6.1.3
-- (b), (c))
abbrev pub IsExempt : Tbs → Bool → Type 0
IsExempt t last = (last ≡ false) × (canon_name t.issuer ≡ canon_name t.subject)

-- each name meets a condition, or the form is that of the first that does not
abbrev pub IsFirstForm : Condition → List Source → List GeneralName → Option Form → Type 0
IsFirstForm condition sources names None = EachNameMeets condition sources names
IsFirstForm condition sources names (Some form) = FirstNameFails condition sources names form
