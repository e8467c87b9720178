-- The question that a request asks.
use Rattle.std.specs.Prelude.{◌≡◌, ◌≢◌, ◌⊎◌, ◌==◌, ◌&&◌, ℕ, ℤ, List, [], ◌∷◌, Bool, true, false}
use Rattle.std.specs.Prelude.{Result, Ok, Err, is_some, if◌then◌else◌}
use Rattle.std.specs.Char.{is_ascii_whitespace}
use Rattle.std.specs.Str.{IsUtf8}
use Rattle.sha2.specs.Sha256.{sha256}
use Rattle.ts_form.specs.Asking.{asked_in}
use Rattle.ts_form.specs.Fields.{AddsCertificates, AreRefused, IsNothing, IsRefusedInAll, SetsAll}
use Rattle.ts_form.specs.Pairs.{AreFew, AreMany, IsMany, NamedValue, pairs_of}
use Rattle.ts_form.specs.Said.{IsLongText, IsSaid}
use Rattle.ts_form.specs.declared.fault.FormFault.{FormFault}
use Rattle.ts_form.specs.declared.fault.FormFault.TheVariants as faults
use Rattle.ts_form.specs.declared.wanted.WantedFields.{WantedFields}
use Rattle.ts_question.specs.Question.{StoreQuestion, question_encoding, is_within}
use Rattle.ts_api.specs.Request.{query_of}
use Rattle.ts_api.specs.declared.asking.AskedQuestion.{AskedQuestion}
use Rattle.ts_api.specs.declared.asking.NoQuestion.{NoQuestion}
use Rattle.ts_api.specs.declared.asking.NoQuestion.TheVariants.{Form, Limits}

-- ---- the body

-- a body is JSON where its first octet but blanks is a brace
unfoldable pub is_json : List ℕ → Bool
is_json [] = false
is_json (octet ∷ octets) =
    if octet == 123 then true
    else (if is_ascii_whitespace octet then is_json octets else false)

-- a body of JSON, which is UTF-8 (RFC 8259 8.1), says these pairs
abbrev pub SaysJson : List ℕ → List NamedValue → Type 0
SaysJson body pairs = IsUtf8 body × IsSaid body pairs

-- Why a body of JSON is refused: memory, which any call may answer, or the one fault of this body.
-- It is an object with a name of more than 64 octets; or it says more than 256 pairs; or it is no
-- object with such a name, and says no pairs.
abbrev pub SaysNoJson : List ℕ → FormFault → Type 0
SaysNoJson body faults.Memory = Unit {0}
SaysNoJson body faults.Name = IsUtf8 body × IsLongText body
SaysNoJson body faults.Many = (pairs : List NamedValue) × SaysJson body pairs × AreMany pairs
SaysNoJson body faults.Json = ¬ (IsUtf8 body × IsLongText body)
    × ((pairs : List NamedValue) → ¬ (SaysJson body pairs))
SaysNoJson body fault = ⊥

-- an object of JSON says pairs, nothing says nothing, any other body is certificates
abbrev pub SaysAs : Bool → List ℕ → WantedFields → WantedFields → Type 0
SaysAs true body old new = (pairs : List NamedValue) × SaysJson body pairs × AreFew pairs
    × SetsAll pairs old new
SaysAs false [] old new = new ≡ old
SaysAs false (octet ∷ octets) old new = AddsCertificates (octet ∷ octets) old new

abbrev pub SaysBody : List ℕ → WantedFields → WantedFields → Type 0
SaysBody body old new = SaysAs (is_json body) body old new

abbrev pub RefusedAs : Bool → List ℕ → WantedFields → FormFault → Type 0
RefusedAs true body old fault = SaysNoJson body fault
    ⊎ ((pairs : List NamedValue) × SaysJson body pairs × IsRefusedInAll pairs old fault)
RefusedAs false [] old fault = ⊥
RefusedAs false (octet ∷ octets) old fault = AreRefused (octet ∷ octets) fault

abbrev pub BodyRefused : List ℕ → WantedFields → FormFault → Type 0
BodyRefused body old fault = RefusedAs (is_json body) body old fault

-- ---- the query, and all of it

-- pairs one after another, where nothing was given before
abbrev pub SaysPairs : List NamedValue → WantedFields → Type 0
SaysPairs pairs wanted = (nothing : WantedFields) × IsNothing nothing × SetsAll pairs nothing wanted

abbrev pub PairsRefused : List NamedValue → FormFault → Type 0
PairsRefused pairs fault =
    (nothing : WantedFields) × IsNothing nothing × IsRefusedInAll pairs nothing fault

-- the pairs of a target's query
abbrev pub pairs_in : List ℕ → List NamedValue
pairs_in target = pairs_of (query_of target)

-- the query of a target, which has few pairs, then a body
abbrev pub Says : List ℕ → List ℕ → WantedFields → Type 0
Says target body wanted = AreFew (pairs_in target)
    × ((mid : WantedFields) × SaysPairs (pairs_in target) mid × SaysBody body mid wanted)

-- memory, or the query has too many pairs or one that is refused, or the body behind it is refused
abbrev pub RequestRefused : List ℕ → List ℕ → FormFault → Type 0
RequestRefused target body faults.Memory = Unit {0}
RequestRefused target body fault = IsMany (pairs_in target) fault
    ⊎ (PairsRefused (pairs_in target) fault
    ⊎ ((mid : WantedFields) × SaysPairs (pairs_in target) mid × BodyRefused body mid fault))

-- ---- the question

-- a question, the SHA-256 of its octets, and whether its answer is for ever
abbrev pub asked_as : StoreQuestion → Bool → AskedQuestion
asked_as question is_pinned = record {
  question = question;
  id = sha256 (question_encoding question);
  is_pinned = is_pinned;
}

-- the question that fields ask: its answer is for ever where both moment and position are given
abbrev pub IsAsked : WantedFields → ℤ → Result AskedQuestion NoQuestion → Type 0
IsAsked wanted now (Ok asked) =
    asked ≡ asked_as (asked_in wanted now) (is_some wanted.at && is_some wanted.k)
IsAsked wanted now (Err Limits) = is_within (asked_in wanted now) ≡ false
IsAsked wanted now (Err other) = ⊥

-- the question of a request, why what it says is refused, or that it is outside its limits
abbrev pub IsAskedBy : List ℕ → List ℕ → ℤ → Result AskedQuestion NoQuestion → Type 0
IsAskedBy target body now (Err (Form fault)) =
    (fault ≢ faults.Memory) × RequestRefused target body fault
IsAskedBy target body now result =
    (wanted : WantedFields) × Says target body wanted × IsAsked wanted now result

-- the same, of pairs alone
abbrev pub IsAskedFrom : List NamedValue → ℤ → Result AskedQuestion NoQuestion → Type 0
IsAskedFrom pairs now (Err (Form fault)) = (fault ≢ faults.Memory) × PairsRefused pairs fault
IsAskedFrom pairs now result =
    (wanted : WantedFields) × SaysPairs pairs wanted × IsAsked wanted now result
