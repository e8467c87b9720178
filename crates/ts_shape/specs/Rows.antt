-- The rows of elements that more than one format has, and of names.
use Rattle.std.specs.Prelude.{ℕ, zero, suc, ◌+◌, not, List, [], ◌∷◌, take, drop, length}
use Rattle.std.specs.Prelude.{if◌then◌else◌}
use Rattle.ts_der.specs.declared.fault.DerFault.TheVariants.{Empty, SetOrder}
use Rattle.ts_der.specs.Rules.{Rule, rule}
use Rattle.ts_der.specs.Header.{header_size, length_of}
use Rattle.ts_der.specs.Reading.{is_end}
use Rattle.ts_der.specs.Integer.{integer_rules}
use Rattle.ts_der.specs.BitString.{whole_octets_rules}
use Rattle.ts_der.specs.ObjectIdentifier.{oid_rules}
use Rattle.ts_der.specs.SetOf.{ascends}
use Rattle.ts_der.specs.Text.{utf8_rules, ascii_rules}
use Rattle.ts_shape.specs.Shape.{Row, tagged, no_other, items, ◌then◌, der_rules, primitive}

-- ---- elements that hold no others

-- OBJECT IDENTIFIER
abbrev pub object_identifier : Row
object_identifier = primitive 0x06 (der_rules oid_rules)

-- INTEGER
abbrev pub integer : Row
integer = primitive 0x02 (der_rules integer_rules)

-- BIT STRING of whole octets
abbrev pub bit_string : Row
bit_string = primitive 0x03 (der_rules whole_octets_rules)

-- UTF8String
abbrev pub utf8_string : Row
utf8_string = primitive 0x0C (der_rules utf8_rules)

-- PrintableString
abbrev pub printable_string : Row
printable_string = primitive 0x13 (der_rules ascii_rules)

-- IA5String
abbrev pub ia5_string : Row
ia5_string = primitive 0x16 (der_rules ascii_rules)

-- ---- sets

-- the elements that octets are, one after another, where there are no more of them than this
abbrev pub elements_of : ℕ → List ℕ → List (List ℕ)
elements_of zero octets = []
elements_of (suc n) octets =
    if is_end octets then []
    else take (header_size octets + length_of octets) octets
    ∷ elements_of n (drop (header_size octets + length_of octets) octets)

-- there is an element, and they ascend (X.690 11.6)
abbrev pub set_rules : List Rule
set_rules = rule Empty (λ c. is_end c)
    ∷ rule SetOrder (λ c. not (ascends (elements_of (length c) c))) ∷ []

-- SET SIZE (1..MAX) OF
abbrev pub set_of : Row → Row
set_of row = tagged 0x31 (items row) (der_rules set_rules) no_other
