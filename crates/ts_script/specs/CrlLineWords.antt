-- The words after the signer of a `crl` line: what they say of the CRL.
use Rattle.std.specs.Prelude.{◌≡◌, ℕ, List, [], ◌∷◌, ◌++◌, map, Option, codes}
use Rattle.std.specs.List.{flat_map}
use Rattle.ts_ext.specs.declared.reason_code.ReasonCode.{ReasonCode}
use Rattle.ts_ext.specs.Encoding.{reason_number}
use Rattle.ts_make.specs.declared.crl_description.EntryText.{EntryText}
use Rattle.ts_make.specs.declared.crl_description.CrlText.{CrlText}
use Rattle.ts_make.specs.Told.{list_of}
use Rattle.ts_script.specs.declared.crl_words.CrlKeyword.{CrlKeyword}
use Rattle.ts_script.specs.declared.crl_words.CrlKeyword.TheVariants as keyword
use Rattle.ts_script.specs.Pieces.{pieces_of}
use Rattle.ts_literal.specs.Literals.{IsNumber}
use Rattle.ts_script.specs.ExtensionWords.{IsText, IsDotted, IsNumbers}

-- what one word says: an entry, a number, a base number, reasons, a URI, or the object identifier
-- of a critical extension
pub data CrlPart : Type 0 where
  revoked : EntryText → CrlPart
  numbered : ℕ → CrlPart
  based : ℕ → CrlPart
  some_reasons : List ℕ → CrlPart
  at_uri : List ℕ → CrlPart
  critical_unknown : List ℕ → CrlPart

-- what a word begins with
abbrev pub crl_keyword_text : CrlKeyword → List ℕ
crl_keyword_text keyword.Entry = codes "entry="
crl_keyword_text keyword.Number = codes "number="
crl_keyword_text keyword.Base = codes "base="
crl_keyword_text keyword.Reasons = codes "reasons="
crl_keyword_text keyword.Uri = codes "uri="
crl_keyword_text keyword.Critical = codes "critical="

-- the number of a reason (RFC 5280 5.3.1)
abbrev pub IsReason : List ℕ → ReasonCode → Type 0
IsReason value reason = IsNumber value (reason_number reason)

-- an entry: a serial number and a reason, between which `:` stands
pub record IsEntry (value : List ℕ) (entry : EntryText) : Type 0 where
  pub left : List ℕ
  pub right : List ℕ
  pub pieces : pieces_of 58 value ≡ left ∷ right ∷ []
  pub serial : IsNumber left entry.serial
  pub reason : IsReason right entry.reason

-- a value is of a form, and what it says is this part
abbrev pub SaysPart : {T : Type 0} → (List ℕ → T → Type 0) → (T → CrlPart) → List ℕ → CrlPart
    → Type 0
SaysPart {T} Is part value said = (x : T) × Is value x × (said ≡ part x)

-- what follows a keyword says this part
abbrev pub SaysCrl : CrlKeyword → List ℕ → CrlPart → Type 0
SaysCrl keyword.Entry value part = SaysPart IsEntry revoked value part
SaysCrl keyword.Number value part = SaysPart IsNumber numbered value part
SaysCrl keyword.Base value part = SaysPart IsNumber based value part
SaysCrl keyword.Reasons value part = SaysPart IsNumbers some_reasons value part
SaysCrl keyword.Uri value part = SaysPart IsText at_uri value part
SaysCrl keyword.Critical value part = SaysPart IsDotted critical_unknown value part

-- a word says this part
pub record IsCrlWord (word : List ℕ) (part : CrlPart) : Type 0 where
  pub keyword : CrlKeyword
  pub value : List ℕ
  pub written : word ≡ crl_keyword_text keyword ++ value
  pub says : SaysCrl keyword value part

-- words say these parts, one each
abbrev pub AreCrlWords : List (List ℕ) → List CrlPart → Type 0
AreCrlWords [] parts = parts ≡ []
AreCrlWords (word ∷ words) parts = (first : CrlPart) × (rest : List CrlPart) × IsCrlWord word first
    × AreCrlWords words rest × (parts ≡ first ∷ rest)

-- what a part says of a field
abbrev pub entry_said : CrlPart → List EntryText
entry_said (revoked entry) = entry ∷ []
entry_said part = []

abbrev pub number_said : CrlPart → List ℕ
number_said (numbered n) = n ∷ []
number_said part = []

abbrev pub base_said : CrlPart → List ℕ
base_said (based n) = n ∷ []
base_said part = []

abbrev pub reasons_said : CrlPart → List ℕ
reasons_said (some_reasons numbers) = numbers
reasons_said part = []

abbrev pub uri_said : CrlPart → List (List ℕ)
uri_said (at_uri text) = text ∷ []
uri_said part = []

abbrev pub critical_said : CrlPart → List (List ℕ)
critical_said (critical_unknown content) = content ∷ []
critical_said part = []

-- the fields of a list that words say, as plain data
pub record Fields : Type 0 where
  pub entries : List EntryText
  pub number : Option ℕ
  pub base : Option ℕ
  pub reasons : List ℕ
  pub uris : List (List ℕ)
  pub critical : List (List ℕ)

-- those of a description
abbrev pub fields_of : CrlText → Fields
fields_of text = record {
  entries = text.entries.now;
  number = text.number;
  base = text.base;
  reasons = text.reasons.now;
  uris = map (λ uri. uri.now) text.uris.now;
  critical = map (λ oid. oid.content.now) text.critical.now;
}

-- what the parts say gathers in the fields, in their order; at most one of them is a number, and
-- one a base number
pub record Gather (parts : List CrlPart) (fields : Fields) : Type 0 where
  pub entries : fields.entries ≡ flat_map entry_said parts
  pub number : list_of fields.number ≡ flat_map number_said parts
  pub base : list_of fields.base ≡ flat_map base_said parts
  pub reasons : fields.reasons ≡ flat_map reasons_said parts
  pub uris : fields.uris ≡ flat_map uri_said parts
  pub critical : fields.critical ≡ flat_map critical_said parts

-- the words after the signer say these fields
pub record AreFields (words : List (List ℕ)) (fields : Fields) : Type 0 where
  pub parts : List CrlPart
  pub said : AreCrlWords words parts
  pub gather : Gather parts fields
