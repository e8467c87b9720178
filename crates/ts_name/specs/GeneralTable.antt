-- The rows of general names (RFC 5280 4.2.1.6).
use Rattle.ts_der.specs.ObjectIdentifier.{oid_rules}
use Rattle.ts_der.specs.Text.{ascii_rules}
use Rattle.ts_shape.specs.Shape.{Row, tagged, no_other, nothing, ◌then◌, der_rules, no_rules}
use Rattle.ts_shape.specs.Shape.{primitive, ◌or◌}
use Rattle.ts_name.specs.NameRows.{name}

-- otherName [0] AnotherName, not looked into
abbrev pub other_name : Row
other_name = primitive 0xA0 no_rules

-- rfc822Name [1] IA5String
abbrev pub rfc822_name : Row
rfc822_name = primitive 0x81 (der_rules ascii_rules)

-- dNSName [2] IA5String
abbrev pub dns_name : Row
dns_name = primitive 0x82 (der_rules ascii_rules)

-- x400Address [3] ORAddress, not looked into
abbrev pub x400_address : Row
x400_address = primitive 0xA3 no_rules

-- directoryName [4] EXPLICIT Name
abbrev pub directory_name : Row
directory_name = tagged 0xA4 (name then nothing) no_rules no_other

-- ediPartyName [5] EDIPartyName, not looked into
abbrev pub edi_party_name : Row
edi_party_name = primitive 0xA5 no_rules

-- uniformResourceIdentifier [6] IA5String
abbrev pub uniform_resource_identifier : Row
uniform_resource_identifier = primitive 0x86 (der_rules ascii_rules)

-- iPAddress [7] OCTET STRING
abbrev pub ip_address : Row
ip_address = primitive 0x87 no_rules

-- registeredID [8] OBJECT IDENTIFIER
abbrev pub registered_id : Row
registered_id = primitive 0x88 (der_rules oid_rules)

-- GeneralName ::= CHOICE
abbrev pub general_name : Row
general_name =
    other_name
    or rfc822_name
    or dns_name
    or x400_address
    or directory_name
    or edi_party_name
    or uniform_resource_identifier
    or ip_address
    or registered_id
