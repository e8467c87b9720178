-- What a certificate says by an extension (RFC 5280 4.2): the value that the octets of the
-- extension are.
use Rattle.std.specs.Prelude.{ℕ, List, Option, Result}
use Rattle.std.specs.List.{find}
use Rattle.std.specs.Option.{option_and_then}
use Rattle.std.specs.Result.{result_ok}
use Rattle.std.specs.Str.{bytes_eq}
use Rattle.ts_der.specs.declared.fault.Fault.{Fault}
use Rattle.ts_der.specs.Element.{Tlv, encoded_at}
use Rattle.ts_shape.specs.Fields.{Within}
use Rattle.ts_shape.specs.Items.{alone, of_tag}
use Rattle.ts_ext.specs.declared.known.Known.{Known}
use Rattle.ts_ext.specs.Ext.{layout_of}
use Rattle.ts_extensions.specs.Extension.{Extension}
use Rattle.ts_extensions.specs.Stated.{IsStated}
use Rattle.ts_ext.specs.Known.{identifier_of}
use Rattle.ts_cert.specs.Certificate.{Tbs, all_extensions}

-- the extension of this object identifier, if it stands (4.2: a certificate has no two of one
-- object identifier)
abbrev pub known_extension : Known → Tbs → Option Extension
known_extension known t = find (λ x. bytes_eq x.extnID (identifier_of known)) (all_extensions t)

-- the value that octets are, as the content of the OCTET STRING extnValue (4.1, 4.2): one element,
-- which has the tag of this extension's values and is read so, and nothing after it. Where they
-- stand does not matter; here it is the front of an input.
abbrev pub value_of_octets : {A : Type 0} → Known → (Tlv → Result A Fault) → List ℕ → Option A
value_of_octets known reading octets =
    result_ok (alone (of_tag (layout_of known).tag reading) (encoded_at 0 0x04 octets))

-- what this extension says, read so: nothing where it does not stand, else the value that its
-- octets are, if they are one
unfoldable pub stated_value : {A : Type 0} → Known → (Tlv → Result A Fault) → Tbs → Option A
stated_value known reading t = option_and_then (λ x. value_of_octets known reading x.extnValue)
    (known_extension known t)

-- what this extension says, read so, is what its octets encode: nothing where it does not stand,
-- else the one value of them
abbrev pub IsEncoded : {A : Type 0} → Known → (Tlv → Result A Fault) → (List ℕ → A → Type 0) → Tbs
    → Type 0
IsEncoded known reading Encodes t = IsStated (Within (layout_of known).tag Encodes)
    (known_extension known t) (stated_value known reading t)
