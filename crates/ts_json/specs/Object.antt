-- A verdict as one JSON object (RFC 8259 section 4). Its text is what `compact_text` of
-- `serde_json` writes of it.
use Rattle.std.specs.Prelude.{ℕ, List, Option, Some, None, map, option_map, codes, string_bytes}
use Rattle.serde_json.specs.Data.{Data, null, boolean, number, unsigned, string, array, object}
use Rattle.serde_json.specs.Data.{Members, no_members, put}
use Rattle.serde_json.specs.View.{items_of}
use Rattle.ts_json.specs.declared.verdict.VerdictFields.{VerdictFields}

-- what a field does not have is null
abbrev pub text_or_null : Option (List ℕ) → Data
text_or_null None = null
text_or_null (Some text) = string text

abbrev pub number_or_null : Option ℕ → Data
number_or_null None = null
number_or_null (Some n) = number (unsigned n)

-- an array of texts
abbrev pub texts : List (List ℕ) → List Data
texts items = map string items

abbrev pub array_of : List (List ℕ) → Data
array_of items = array (items_of (texts items))

-- the members on the certificate that is not good
unfoldable pub failing_in : VerdictFields → Members
failing_in f =
    put (codes "subject") (text_or_null (option_map string_bytes f.subject))
    (put (codes "section") (text_or_null (option_map string_bytes f.section))
    (put (codes "reason") (text_or_null (option_map string_bytes f.reason))
    (put (codes "position") (number_or_null f.position) no_members)))

-- all members, each by its name
unfoldable pub members_in : VerdictFields → Members
members_in f =
    put (codes "revocation_checked") (boolean f.revocation_checked)
    (put (codes "anchor") (string (string_bytes f.anchor))
    (put (codes "policies") (array_of (map string_bytes f.policies.items))
    (put (codes "explanation") (string (string_bytes f.explanation))
    (put (codes "of") (number (unsigned f.of))
    (put (codes "valid") (boolean f.valid)
    (failing_in f))))))

abbrev pub object_in : VerdictFields → Data
object_in f = object (members_in f)
