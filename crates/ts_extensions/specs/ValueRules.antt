-- The first rule that a list of extensions breaks: none occurs twice, and then those of the values,
-- one extension after another (RFC 5280 4.2, 5.2, 5.3).
use Rattle.std.specs.Prelude.{◌≡◌, ℕ, List, [], ◌∷◌, Option, None, Result, Ok, Err, option_map}
use Rattle.ts_der.specs.declared.fault.Fault.{Fault}
use Rattle.ts_der.specs.Answer.{◌>>=◌}
use Rattle.ts_shape.specs.declared.fault.CertRule.{CertRule}
use Rattle.ts_shape.specs.declared.fault.CertRule.TheVariants.{DuplicateExtension}
use Rattle.ts_shape.specs.declared.fault.CertFault.{CertFault}
use Rattle.ts_shape.specs.Fault.{breaks}
use Rattle.ts_shape.specs.Repeats.{first_repeated}
use Rattle.ts_shape.specs.Shape.{◌or_else◌}
use Rattle.ts_ext.specs.declared.known.Holder.{Holder}
use Rattle.ts_ext.specs.declared.known.Known.{Known}
use Rattle.ts_ext.specs.declared.known.Holder.TheVariants.{Certificate}
use Rattle.ts_ext.specs.Ext.{ExtValue, IsExt, ext_of, ext_fault}
use Rattle.ts_extensions.specs.Extension.{Extension, Located}
use Rattle.ts_ext.specs.Known.{known_at}
use Rattle.ts_ext.specs.Rules.{broken_rule}

-- the first extension that is one of those before it once more (4.2)
abbrev pub repeated_fault : List Located → Option CertFault
repeated_fault xs = option_map (λ x. breaks x.at DuplicateExtension)
    (first_repeated (λ x. x.extnID) [] xs)

-- the place of a rule that is not one of DER: the extension of a certificate, none elsewhere
abbrev pub rule_place : Holder → ℕ → ℕ
rule_place Certificate at = at
rule_place other at = 0

-- the rule beside those of DER that a value breaks, if it can be read
abbrev pub rule_of : Result ExtValue Fault → Result (Option CertRule) Fault
rule_of read = read >>= λ x. Ok (broken_rule x)

-- the same as a fault of an extension at a place, where it was read
abbrev pub content_fault : ℕ → Result ExtValue Fault → Option CertFault
content_fault at (Ok value) = option_map (breaks at) (broken_rule value)
content_fault at (Err fault) = None

-- the first rule that the value of one extension breaks: of DER, then the others
abbrev pub value_fault : Holder → Located → Option CertFault
value_fault holder x = ext_fault (known_at holder x.extnID) x.value or_else content_fault
    (rule_place holder x.at) (ext_of (known_at holder x.extnID) x.value)

-- the first that any of them breaks
abbrev pub values_fault : Holder → List Located → Option CertFault
values_fault holder [] = None
values_fault holder (x ∷ xs) = value_fault holder x or_else values_fault holder xs

-- the first rule that a list breaks: that none occurs twice, then those of the values
abbrev pub extension_list_fault : Holder → List Located → Option CertFault
extension_list_fault holder xs = repeated_fault xs or_else values_fault holder xs

-- ---- lists whose values break no rule

-- octets are a value as that extension asks, which breaks none of the other rules
abbrev pub IsValidValue : Option Known → List ℕ → Type 0
IsValidValue known octets = (value : ExtValue) × IsExt known octets value
    × (broken_rule value ≡ None)

abbrev pub IsValid : Holder → Extension → Type 0
IsValid holder x = IsValidValue (known_at holder x.extnID) x.extnValue

abbrev pub AreValid : Holder → List Extension → Type 0
AreValid holder [] = Unit {0}
AreValid holder (x ∷ xs) = IsValid holder x × AreValid holder xs
