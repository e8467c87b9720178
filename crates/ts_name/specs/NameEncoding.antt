-- The one encoding of a name (RFC 5280 4.1.2.4, X.501 9).
use Rattle.std.specs.Prelude.{◌≡◌, ◌≢◌, ℕ, true, List, [], ◌++◌, map, None}
use Rattle.std.specs.List.{flat_map, AllByRecursion}
use Rattle.ts_der.specs.Rules.{first_broken}
use Rattle.ts_der.specs.Element.{Fits, encode}
use Rattle.ts_der.specs.ObjectIdentifier.{is_oid}
use Rattle.ts_der.specs.SetOf.{ascends}
use Rattle.ts_name.specs.Canon.{Attr}
use Rattle.ts_name.specs.Names.{text_rules}

-- AttributeTypeAndValue: SEQUENCE { type OBJECT IDENTIFIER, value }
unfoldable pub attribute_content : Attr → List ℕ
attribute_content a = encode 0x06 a.kind ++ encode a.tag a.value

abbrev pub encoded_attribute : Attr → List ℕ
encoded_attribute a = encode 0x30 (attribute_content a)

-- RelativeDistinguishedName: SET OF AttributeTypeAndValue
unfoldable pub rdn_content : List Attr → List ℕ
rdn_content attributes = flat_map encoded_attribute attributes

abbrev pub encoded_rdn : List Attr → List ℕ
encoded_rdn attributes = encode 0x31 (rdn_content attributes)

-- an attribute that has an encoding: its type is an object identifier, and a value that is text
-- obeys its character set
pub record IsAttribute (a : Attr) : Type 0 where
  pub kind : is_oid a.kind ≡ true
  pub value : Fits a.tag a.value
  pub text : first_broken (text_rules a.tag) a.value ≡ None

-- a relative distinguished name that has one: one attribute or more, in the order of a set
pub record IsRdn (attributes : List Attr) : Type 0 where
  pub some : attributes ≢ []
  pub each : AllByRecursion (λ a. IsAttribute a × Fits 0x30 (attribute_content a)) attributes
  pub ordered : ascends (map encoded_attribute attributes) ≡ true

-- the content of a relative distinguished name that is these attributes
abbrev pub IsRdnContent : List ℕ → List Attr → Type 0
IsRdnContent content attributes = (content ≡ rdn_content attributes) × IsRdn attributes

-- the content of a name that is these relative distinguished names
pub record IsName (content : List ℕ) (rdns : List (List Attr)) : Type 0 where
  pub each : AllByRecursion (λ r. IsRdn r × Fits 0x31 (rdn_content r)) rdns
  pub whole : content ≡ flat_map encoded_rdn rdns
