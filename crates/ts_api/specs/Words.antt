-- Why a request says no question, in plain words.
use Rattle.std.specs.Prelude.{◌++◌, ℕ, List, codes}
use Rattle.ts_form.specs.Names.{name_of}
use Rattle.ts_form.specs.declared.field.Field.{Field}
use Rattle.ts_form.specs.declared.field.Field.TheVariants as fields
use Rattle.ts_form.specs.declared.fault.FormFault.{FormFault}
use Rattle.ts_form.specs.declared.fault.FormFault.TheVariants.{Memory, Json, Many, Name}
use Rattle.ts_form.specs.declared.fault.FormFault.TheVariants.{Value, Twice}
use Rattle.ts_api.specs.declared.asking.NoQuestion.{NoQuestion}
use Rattle.ts_api.specs.declared.asking.NoQuestion.TheVariants.{Form, Limits}

-- what a value of a field is
abbrev pub wanted_of : Field → List ℕ
wanted_of fields.Chain = codes "certificates in PEM, or one as base64 of its DER"
wanted_of fields.At = codes "a moment, as 20260131120000Z"
wanted_of fields.K = codes "a number from 0 to 1000000"
wanted_of fields.Policies = codes "an object identifier, as 2.5.29.32.0"
wanted_of fields.Purpose = codes "an object identifier, as 2.5.29.32.0"
wanted_of fields.From = codes "a number below 4294967296"
wanted_of fields.Anchor = codes "the 64 lower-case hexadecimal digits of an anchor's id"
wanted_of other = codes "1 or 0"

abbrev pub field_words : List ℕ
field_words = codes "there are these fields: chain, at, k, hard, deltas, explicit, nomap, noany, "
    ++ codes "policies, purpose, anchor; of pages of rows: k, from"

abbrev pub fault_words : FormFault → List ℕ
fault_words Memory = codes "memory was refused"
fault_words Json =
    codes "the body is no JSON object of texts, numbers, flags and lists of texts"
fault_words Many = codes "more than 256 fields are given"
fault_words Name = field_words
fault_words (Value field) = name_of field ++ (codes " is not " ++ wanted_of field)
fault_words (Twice field) = name_of field ++ codes " is given twice"

abbrev pub limit_words : List ℕ
limit_words = codes "a question has 1 to 16 certificates under an anchor, or 1 to 33 "
    ++ codes "without one, each of at most 65536 octets, and at most 32 policies"

-- why a request asks no question
abbrev pub no_question_words : NoQuestion → List ℕ
no_question_words Limits = limit_words
no_question_words (Form fault) = fault_words fault
