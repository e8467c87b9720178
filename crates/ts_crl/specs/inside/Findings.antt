-- What is noted of the extensions of entries while they are read, one after another.
use Rattle.std.specs.Prelude.{◌≡◌, ℕ, ◌||◌, List, [], length, Option, Some, None, map, Result}
use Rattle.std.specs.Prelude.{Ok, Err}
use Rattle.std.specs.List.{list_any}
use Rattle.ts_der.specs.declared.fault.Fault.{Fault}
use Rattle.ts_der.specs.Element.{Place}
use Rattle.ts_shape.specs.Shape.{◌or_else◌}
use Rattle.ts_ext.specs.declared.known.Holder.TheVariants.{Entry}
use Rattle.ts_ext.specs.declared.known.Known.TheVariants.{CertificateIssuer}
use Rattle.ts_extensions.specs.Extension.{Located, unlocated}
use Rattle.ts_extensions.specs.ValueRules.{values_fault}
use Rattle.ts_crl.specs.declared.extension_rule.ExtensionRule.TheVariants.{OldVersion, Repeated}
use Rattle.ts_crl.specs.List.{LocatedExtensions, LocatedEntry}
use Rattle.ts_crl.specs.Profile.{unprocessed_in}
use Rattle.ts_crl.specs.Rules.{rule_fault}
use Rattle.ts_crl.specs.Values.{is_known}
use Rattle.ts_crl.specs.Findings.{Findings, findings_of}

-- what is found in entries and in others after them
abbrev pub join : Findings → Findings → Findings
join f g =
    record {
      old_version = f.old_version or_else g.old_version;
      repeated = f.repeated or_else g.repeated;
      value = f.value or_else g.value;
      unprocessed = f.unprocessed or_else g.unprocessed;
      issuer = f.issuer || g.issuer;
    }

-- what is found in extensions, looked at one by one
abbrev pub found_among : List Located → Findings
found_among xs =
    record {
      old_version = None;
      repeated = None;
      value = values_fault Entry xs;
      unprocessed = unprocessed_in Entry (map unlocated xs);
      issuer = list_any (is_known CertificateIssuer) (map unlocated xs);
    }

-- what is found in the extensions of an entry
abbrev pub found_in : LocatedExtensions → Findings
found_in x = record (found_among x.extensions)
    { old_version = rule_fault OldVersion Entry x; repeated = rule_fault Repeated Entry x }

-- the same where there may be none
abbrev pub found_if_any : Option LocatedExtensions → Findings
found_if_any None = findings_of []
found_if_any (Some x) = found_in x

-- a call read something, and found what is found in it; or it refused
abbrev pub Notes : {A : Type 0} → (A → Findings) → Findings → Findings → Result (Unit {0}) Fault
    → Result A Fault → Type 0
Notes {A} found old new (Ok done) reading =
    (x : A) × (reading ≡ Ok x) × (new ≡ join old (found x))
Notes found old new (Err f) reading = reading ≡ Err f

-- the same for what is next, and the reader has passed it
abbrev pub NotesNext : {A : Type 0} → (A → Findings) → Place → Findings → Findings
    → Result (Unit {0}) Fault → Result (A × Place) Fault → Type 0
NotesNext {A} found after old new (Ok done) reading =
    (x : A) × (reading ≡ Ok (x, after)) × (new ≡ join old (found x))
NotesNext found after old new (Err f) reading = reading ≡ Err f

-- the same for extensions, which are counted
abbrev pub NotesAmong : Findings → Findings → Result ℕ Fault → Result (List Located) Fault → Type 0
NotesAmong old new (Ok count) reading = (xs : List Located) × (reading ≡ Ok xs)
    × (new ≡ join old (found_among xs)) × (count ≡ length xs)
NotesAmong old new (Err f) reading = reading ≡ Err f

-- a call read entries, and answered what is found in them
abbrev pub Finds : {X : Type 0} → (X → Findings) → Result X Fault
    → Result (List LocatedEntry) Fault → Type 0
Finds view (Ok f) reading = (es : List LocatedEntry) × (reading ≡ Ok es) × (view f ≡ findings_of es)
Finds view (Err f) reading = reading ≡ Err f
