-- Why one text is refused, as the steps of reading it say it.
use Rattle.std.specs.Prelude.{◌≡◌, ℕ, List, Ok, None}
use Rattle.base64.specs.Engines.{standard}
use Rattle.base64.specs.GeneralPurpose.{decode_of}
use Rattle.ts_der.specs.Octets.{AreOctets}
use Rattle.ts_form.specs.Fields.{says}
use Rattle.ts_form.specs.Values.{AreWritten, IsDotted}
use Rattle.ts_form.specs.declared.field.Field.{Field}
use Rattle.ts_form.specs.declared.field.Field.TheVariants.{Chain}
use Rattle.ts_form.specs.declared.fault.FormFault.{FormFault}
use Rattle.ts_form.specs.declared.fault.FormFault.TheVariants as faults

-- memory, or the text is no dotted form
abbrev pub IsNoOid : Field → List ℕ → FormFault → Type 0
IsNoOid field text faults.Memory = Unit {0}
IsNoOid field text (faults.Value other) =
    (other ≡ field) × ((content : List ℕ) → AreOctets content → ¬ (IsDotted text content))
IsNoOid field text fault = ⊥

-- memory, or the text is no base64
abbrev pub IsNoBase64 : List ℕ → FormFault → Type 0
IsNoBase64 text faults.Memory = Unit {0}
IsNoBase64 text (faults.Value Chain) = (octets : List ℕ) → ¬ (decode_of standard text ≡ Ok octets)
IsNoBase64 text fault = ⊥

-- memory, or the text writes no certificates
abbrev pub IsRefusedText : List ℕ → FormFault → Type 0
IsRefusedText text faults.Memory = Unit {0}
IsRefusedText text (faults.Value Chain) =
    (certificates : List (List ℕ)) → ¬ (AreWritten text certificates)
IsRefusedText text fault = ⊥

-- the text does not say whether a flag is set
abbrev pub IsNoFlag : Field → List ℕ → FormFault → Type 0
IsNoFlag field text (faults.Value other) = (other ≡ field) × (says text ≡ None)
IsNoFlag field text fault = ⊥
