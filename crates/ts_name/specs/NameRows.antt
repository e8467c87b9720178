-- The rows of distinguished names (RFC 5280 4.1.2.4).
use Rattle.std.specs.Prelude.{ℕ, zero, suc, ◌+◌, not, List, [], ◌∷◌, take, drop, length, Option}
use Rattle.std.specs.Prelude.{option_map, if◌then◌else◌}
use Rattle.ts_der.specs.declared.fault.DerFault.TheVariants.{Empty, SetOrder}
use Rattle.ts_der.specs.Rules.{Rule, rule}
use Rattle.ts_der.specs.Element.{Tlv, inside}
use Rattle.ts_der.specs.Header.{header_size, length_of}
use Rattle.ts_der.specs.Reading.{is_end}
use Rattle.ts_der.specs.Integer.{integer_rules}
use Rattle.ts_der.specs.BitString.{whole_octets_rules}
use Rattle.ts_der.specs.ObjectIdentifier.{oid_rules}
use Rattle.ts_der.specs.SetOf.{ascends}
use Rattle.ts_der.specs.Text.{utf8_rules, ascii_rules}
use Rattle.ts_shape.specs.declared.fault.CertFault.{CertFault}
use Rattle.ts_shape.specs.Fault.{breaks}
use Rattle.ts_shape.specs.Shape.{Row, any, tagged, no_other, items, nothing, ◌then◌, ◌or_else◌}
use Rattle.ts_shape.specs.Shape.{judge, der_rules, primitive, sequence, ◌or◌}
use Rattle.ts_shape.specs.Rows.{object_identifier, utf8_string, printable_string, ia5_string}
use Rattle.ts_shape.specs.Rows.{set_rules, set_of}

-- AttributeValue ::= ANY DEFINED BY AttributeType, of which text is in its character set
abbrev pub attribute_value : Row
attribute_value = utf8_string or printable_string or ia5_string or any

-- AttributeTypeAndValue ::= SEQUENCE { type OBJECT IDENTIFIER, value AttributeValue }
abbrev pub attribute_type_and_value : Row
attribute_type_and_value = sequence (object_identifier then attribute_value then nothing)

-- RelativeDistinguishedName ::= SET SIZE (1..MAX) OF AttributeTypeAndValue
abbrev pub relative_distinguished_name : Row
relative_distinguished_name = set_of attribute_type_and_value

-- the first rule that an element breaks as a relative distinguished name, whatever its tag is
abbrev pub rdn_fault : Tlv → Option CertFault
rdn_fault e = judge (items attribute_type_and_value) (inside e) or_else option_map (breaks e.at)
    (der_rules set_rules e.content)

-- Name ::= CHOICE { rdnSequence RDNSequence }, RDNSequence ::= SEQUENCE OF
-- RelativeDistinguishedName
abbrev pub name : Row
name = sequence (items relative_distinguished_name)
