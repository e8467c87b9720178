-- Fields that are given once.
use Rattle.std.specs.Prelude.{◌≡◌, ◌≢◌, Option, Some, None}
use Rattle.ts_form.specs.declared.field.Field.{Field}
use Rattle.ts_form.specs.declared.fault.FormFault.{FormFault}
use Rattle.ts_form.specs.declared.fault.FormFault.TheVariants as faults

-- what had no value has the one that is written
abbrev pub IsNowGiven : {T : Type 0} → Option T → Option T → Option T → Type 0
IsNowGiven {T} old written new =
    (value : T) × (written ≡ Some value) × (old ≡ None) × (new ≡ Some value)

-- it has one, or none is written
abbrev pub IsNotGiven : {T : Type 0} → Field → Option T → Option T → FormFault → Type 0
IsNotGiven field old written (faults.Twice other) = (other ≡ field) × (old ≢ None)
IsNotGiven field old written (faults.Value other) = (other ≡ field) × (written ≡ None)
IsNotGiven field old written fault = ⊥
