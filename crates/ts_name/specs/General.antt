-- General names (RFC 5280 4.2.1.6): one name, of one of nine forms.
use Rattle.std.specs.Prelude.{◌≡◌, ℕ, ◌==◌, ◌||◌, Bool, true, List, length, Result, Ok, Err}
use Rattle.std.specs.Prelude.{if◌then◌else◌}
use Rattle.ts_der.specs.declared.fault.DerFault.TheVariants.{WrongTag}
use Rattle.ts_der.specs.declared.fault.Fault.{Fault}
use Rattle.ts_der.specs.Answer.{◌>>=◌}
use Rattle.ts_der.specs.Element.{Place, Tlv, inside}
use Rattle.ts_der.specs.ObjectIdentifier.{oid_rules}
use Rattle.ts_der.specs.Reading.{fault_at, value_at, end_at}
use Rattle.ts_der.specs.Text.{is_ascii, ascii_rules}
use Rattle.ts_name.specs.Canon.{Attr}
use Rattle.ts_shape.specs.Fields.{Within, IsOid}
use Rattle.ts_name.specs.Names.{name_at}
use Rattle.ts_name.specs.NameEncoding.{IsName}
use Rattle.ts_shape.specs.Items.{each, IsChoice}

-- GeneralName, by its content: octets, or the relative distinguished names of a directory name
pub data GeneralName : Type 0 where
  otherName : List ℕ → GeneralName
  rfc822Name : List ℕ → GeneralName
  dNSName : List ℕ → GeneralName
  x400Address : List ℕ → GeneralName
  directoryName : List (List Attr) → GeneralName
  ediPartyName : List ℕ → GeneralName
  uniformResourceIdentifier : List ℕ → GeneralName
  iPAddress : List ℕ → GeneralName
  registeredID : List ℕ → GeneralName

-- an IP address has 4 octets or 16 (4.2.1.6)
abbrev pub has_address_length : GeneralName → Bool
has_address_length (iPAddress octets) = length octets == 4 || length octets == 16
has_address_length other = true

-- in a constraint it has 8 octets or 32: an address and its mask (4.2.1.10)
abbrev pub has_range_length : GeneralName → Bool
has_range_length (iPAddress octets) = length octets == 8 || length octets == 32
has_range_length other = true

-- ---- encoding

-- IA5String, by its content: octets below 80
abbrev pub IsIa5 : List ℕ → List ℕ → Type 0
IsIa5 content text = (content ≡ text) × (is_ascii text ≡ true)

-- GeneralName ::= CHOICE, by tag and content
abbrev pub IsForm : ℕ → List ℕ → GeneralName → Type 0
-- otherName [0] AnotherName, whose content is not looked into here
IsForm tag content (otherName octets) = (tag ≡ 0xA0) × (content ≡ octets)
-- rfc822Name [1] IA5String
IsForm tag content (rfc822Name text) = (tag ≡ 0x81) × IsIa5 content text
-- dNSName [2] IA5String
IsForm tag content (dNSName text) = (tag ≡ 0x82) × IsIa5 content text
-- x400Address [3] ORAddress, whose content is not looked into here
IsForm tag content (x400Address octets) = (tag ≡ 0xA3) × (content ≡ octets)
-- directoryName [4] Name, explicit since Name is a CHOICE
IsForm tag content (directoryName rdns) = (tag ≡ 0xA4) × Within 0x30 IsName content rdns
-- ediPartyName [5] EDIPartyName, whose content is not looked into here
IsForm tag content (ediPartyName octets) = (tag ≡ 0xA5) × (content ≡ octets)
-- uniformResourceIdentifier [6] IA5String
IsForm tag content (uniformResourceIdentifier text) = (tag ≡ 0x86) × IsIa5 content text
-- iPAddress [7] OCTET STRING
IsForm tag content (iPAddress octets) = (tag ≡ 0x87) × (content ≡ octets)
-- registeredID [8] OBJECT IDENTIFIER
IsForm tag content (registeredID oid) = (tag ≡ 0x88) × IsOid content oid

-- octets that are one element, which is a general name
abbrev pub IsGeneralName : List ℕ → GeneralName → Type 0
IsGeneralName = IsChoice IsForm

-- ---- reading

-- directoryName [4] EXPLICIT Name: one name, and nothing after it
unfoldable pub directory_of : Tlv → Result (List (List Attr)) Fault
directory_of e = do
  name ← name_at (inside e)
  done ← end_at name.1
  Ok name.0

-- GeneralName, by its tag
unfoldable pub general_of : Tlv → Result GeneralName Fault
general_of e =
    if e.tag == 0xA0 then Ok (otherName e.content)
    else (if e.tag == 0x81 then (value_at ascii_rules (λ c. c) e >>= λ text. Ok (rfc822Name text))
    else (if e.tag == 0x82 then (value_at ascii_rules (λ c. c) e >>= λ text. Ok (dNSName text))
    else (if e.tag == 0xA3 then Ok (x400Address e.content)
    else (if e.tag == 0xA4 then (directory_of e >>= λ rdns. Ok (directoryName rdns))
    else (if e.tag == 0xA5 then Ok (ediPartyName e.content)
    else (if e.tag == 0x86 then (value_at ascii_rules (λ c. c) e >>= λ text. Ok
    (uniformResourceIdentifier text))
    else (if e.tag == 0x87 then Ok (iPAddress e.content)
    else (if e.tag == 0x88 then (value_at oid_rules (λ c. c) e >>= λ oid. Ok (registeredID oid))
    else Err (fault_at e.at WrongTag)))))))))

-- the general name that is next
abbrev pub general_at : Place → Result (GeneralName × Place) Fault
general_at = each general_of
