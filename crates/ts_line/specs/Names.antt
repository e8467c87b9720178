-- Names as a line shows them.
use Rattle.std.specs.Prelude.{ℕ, ◌==◌, ◌||◌, List, [], ◌∷◌, ◌++◌, Option, Some, None, option_map}
use Rattle.std.specs.Prelude.{unwrap_or, length, take, drop, codes, if◌then◌else◌}
use Rattle.std.specs.Fmt.{decimal}
use Rattle.std.specs.List.{flat_map, join_by}
use Rattle.std.specs.Str.{bytes_eq}
use Rattle.ts_der.specs.Dotted.{dotted_text}
use Rattle.ts_der.specs.ObjectIdentifier.{is_oid, arcs}
use Rattle.ts_name.specs.Canon.{Attr}
use Rattle.ts_name.specs.General.{GeneralName, otherName, rfc822Name, dNSName, x400Address}
use Rattle.ts_name.specs.General.{directoryName, ediPartyName, uniformResourceIdentifier, iPAddress}
use Rattle.ts_name.specs.General.{registeredID}
use Rattle.ts_line.specs.Lines.{hex, printable, shown_octet}

-- the dotted form of an object identifier, by its content octets
abbrev pub dotted_form : List ℕ → List ℕ
dotted_form content = dotted_text (arcs content)

-- the same; octets that are no object identifier's in hexadecimal digits
abbrev pub oid_text : List ℕ → List ℕ
oid_text content = if is_oid content then printable (dotted_form content) else hex content

-- the email address of PKCS #9 (RFC 5280 4.1.2.6): 1.2.840.113549.1.9.1
abbrev pub email_address : List ℕ
email_address = 42 ∷ 134 ∷ 72 ∷ 134 ∷ 247 ∷ 13 ∷ 1 ∷ 9 ∷ 1 ∷ []

-- an attribute type of RFC 4519: 0.9.2342.19200300.100.1 and one arc
abbrev pub pilot_type : ℕ → List ℕ
pilot_type arc = 9 ∷ 146 ∷ 38 ∷ 137 ∷ 147 ∷ 242 ∷ 44 ∷ 100 ∷ 1 ∷ arc ∷ []

-- an attribute type of X.520: 2.5.4 and one arc
abbrev pub attribute_type : ℕ → List ℕ
attribute_type arc = 85 ∷ 4 ∷ arc ∷ []

-- the short name of a type of attribute (RFC 4514 3, RFC 5280 4.1.2.6), where it has one
abbrev pub short_name : List ℕ → Option (List ℕ)
short_name kind =
    if bytes_eq kind (attribute_type 3) then Some (codes "CN")
    else (if bytes_eq kind (attribute_type 10) then Some (codes "O")
    else (if bytes_eq kind (attribute_type 11) then Some (codes "OU")
    else (if bytes_eq kind (attribute_type 6) then Some (codes "C")
    else (if bytes_eq kind (attribute_type 7) then Some (codes "L")
    else (if bytes_eq kind (attribute_type 8) then Some (codes "ST")
    else (if bytes_eq kind (attribute_type 9) then Some (codes "STREET")
    else (if bytes_eq kind (pilot_type 1) then Some (codes "UID")
    else (if bytes_eq kind (pilot_type 25) then Some (codes "DC")
    else (if bytes_eq kind email_address then Some (codes "emailAddress") else None)))))))))

-- a type of attribute by its short name, or in dotted form
abbrev pub type_text : List ℕ → List ℕ
type_text kind = unwrap_or (option_map printable (short_name kind)) (oid_text kind)

-- an octet of a value: a comma and a plus sign, which separate attributes, behind a backslash
abbrev pub value_octet : ℕ → List ℕ
value_octet octet = if octet == 44 || octet == 43 then 92 ∷ octet ∷ [] else shown_octet octet

-- the type of an attribute and its value
abbrev pub attribute_text : Attr → List ℕ
attribute_text a = type_text a.kind ++ (61 ∷ flat_map value_octet a.value)

-- the attributes of a relative distinguished name, a plus sign between each two
abbrev pub rdn_text : List Attr → List ℕ
rdn_text attributes = join_by attribute_text (codes "+") attributes

-- the relative distinguished names of a name in their order, a comma between each two; a hyphen for
-- a name that has none
abbrev pub name_text : List (List Attr) → List ℕ
name_text [] = codes "-"
name_text (first ∷ others) = join_by rdn_text (codes ",") (first ∷ others)

-- octets in decimal, a full stop between each two
abbrev pub dotted_octets : List ℕ → List ℕ
dotted_octets octets = join_by decimal (codes ".") octets

-- an IP address: four octets, or four and those of a mask, in decimal; any other in hexadecimal
-- digits
abbrev pub address_text : List ℕ → List ℕ
address_text octets =
    if length octets == 4 then dotted_octets octets
    else (if length octets == 8
    then dotted_octets (take 4 octets) ++ (codes "/" ++ dotted_octets (drop 4 octets))
    else hex octets)

-- the form of a general name (RFC 5280 4.2.1.6)
abbrev pub form_text : GeneralName → List ℕ
form_text (otherName octets) = codes "other:"
form_text (rfc822Name text) = codes "mail:"
form_text (dNSName text) = codes "dns:"
form_text (x400Address octets) = codes "x400:"
form_text (directoryName rdns) = codes "directory:"
form_text (ediPartyName octets) = codes "edi:"
form_text (uniformResourceIdentifier text) = codes "uri:"
form_text (iPAddress octets) = codes "ip:"
form_text (registeredID content) = codes "id:"

-- its value; where the form is not processed, the octets
abbrev pub value_text : GeneralName → List ℕ
value_text (otherName octets) = hex octets
value_text (rfc822Name text) = printable text
value_text (dNSName text) = printable text
value_text (x400Address octets) = hex octets
value_text (directoryName rdns) = name_text rdns
value_text (ediPartyName octets) = hex octets
value_text (uniformResourceIdentifier text) = printable text
value_text (iPAddress octets) = address_text octets
value_text (registeredID content) = oid_text content

abbrev pub general_text : GeneralName → List ℕ
general_text general = printable (form_text general) ++ value_text general
