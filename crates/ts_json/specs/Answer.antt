-- A node's answer as one JSON object (RFC 8259 section 4).
use Rattle.std.specs.Prelude.{ℕ, List, Bool, Option, Some, None, map, option_map, codes}
use Rattle.std.specs.Prelude.{string_bytes}
use Rattle.serde_json.specs.Data.{Data, null, boolean, number, unsigned, string, array, object}
use Rattle.serde_json.specs.Data.{Members, no_members, put}
use Rattle.serde_json.specs.View.{items_of}
use Rattle.ts_json.specs.Object.{array_of, number_or_null, text_or_null}
use Rattle.ts_json.specs.declared.answer.AnswerFields.{AnswerFields}

abbrev pub flag_or_null : Option Bool → Data
flag_or_null None = null
flag_or_null (Some flag) = boolean flag

-- an array of numbers
abbrev pub whole : ℕ → Data
whole n = number (unsigned n)

abbrev pub numbers_of : List ℕ → Data
numbers_of items = array (items_of (map whole items))

-- the members on what was asked
unfoldable pub asked_in : AnswerFields → Members
asked_in f =
    put (codes "prefix") (number_or_null f.prefix)
    (put (codes "question") (string (string_bytes f.question))
    (put (codes "id") (string (string_bytes f.id))
    (put (codes "at") (text_or_null (option_map string_bytes f.at))
    (put (codes "k") (whole f.k) no_members))))

-- those on the verdict too
unfoldable pub verdict_in : AnswerFields → Members
verdict_in f =
    put (codes "section") (text_or_null (option_map string_bytes f.section))
    (put (codes "reason") (text_or_null (option_map string_bytes f.reason))
    (put (codes "position") (number_or_null f.position)
    (put (codes "valid") (flag_or_null f.valid)
    (put (codes "reply") (string f.reply.now)
    (asked_in f)))))

-- all members, each by its name
unfoldable pub told_in : AnswerFields → Members
told_in f =
    put (codes "explanation") (string (string_bytes f.explanation))
    (put (codes "places") (numbers_of f.places.items)
    (put (codes "policies") (array_of (map string_bytes f.policies.items))
    (put (codes "anchor") (text_or_null (option_map string_bytes f.anchor))
    (verdict_in f))))

abbrev pub answer_in : AnswerFields → Data
answer_in f = object (told_in f)
