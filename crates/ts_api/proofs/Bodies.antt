-- Why a request asks no question, and what it asks, by the steps of reading it.
use Rattle.std.proofs.Common.{◌≡◌, ◌∷◌, ◌⊎◌, ℕ, ℤ, List, true, false, nat_eq, refl, arith, Result, Ok, Err, IfOk, IfErr, inl, inr}
use Rattle.std.specs.Char.{is_ascii_whitespace}
use Rattle.std.proofs.lemmas.Bool.Decides.{nat_tests}
use Rattle.std.specs.Str.{IsUtf8}
use Rattle.ts_form.specs.Pairs.{AreFew, IsMany, NamedValue}
use Rattle.ts_form.specs.Said.{IsUnsaidText}
use Rattle.ts_form.specs.declared.fault.FormFault.{FormFault}
use Rattle.ts_form.specs.declared.fault.FormFault.TheVariants as faults
use Rattle.ts_form.specs.declared.wanted.WantedFields.{WantedFields}
use Rattle.ts_api.specs.Asking.{BodyRefused, IsAsked, IsAskedBy, IsAskedFrom, PairsRefused, RequestRefused, Says, SaysBody, SaysNoJson, SaysPairs, is_json, pairs_in}
use Rattle.ts_api.specs.declared.asking.AskedQuestion.{AskedQuestion}
use Rattle.ts_api.specs.declared.asking.NoQuestion.{NoQuestion}
use Rattle.ts_api.specs.declared.asking.NoQuestion.TheVariants.{Form, Limits}

no_json : (body : List ℕ) (fault : FormFault) → IsUtf8 body → IsUnsaidText body fault → SaysNoJson body fault
no_json body faults.Memory text unsaid = unsaid
no_json body faults.Json text unsaid = (λ long. unsaid.0 long.1, λ pairs says. unsaid.1 pairs says.1)
no_json body faults.Many text unsaid = (unsaid.0, (text, unsaid.1), unsaid.2)
no_json body faults.Name text unsaid = (text, unsaid)
no_json body (faults.Value field) text unsaid = unsaid
no_json body (faults.Twice field) text unsaid = unsaid

pub unsaid_json : {T : Type 0} (r : Result T FormFault) (body : List ℕ) → IsUtf8 body → IfErr r (IsUnsaidText body) → IfErr r (SaysNoJson body)
unsaid_json (Ok pairs) body text unsaid = unsaid
unsaid_json (Err fault) body text unsaid = no_json body fault text unsaid

-- what is refused beside memory: the number of pairs, one of them, or the body
refused_as : (target body : List ℕ) (fault : FormFault)
    → IsMany (pairs_in target) fault
    ⊎ (PairsRefused (pairs_in target) fault
    ⊎ ((mid : WantedFields) × SaysPairs (pairs_in target) mid × BodyRefused body mid fault))
    → RequestRefused target body fault
refused_as target body faults.Memory refused = tt
refused_as target body faults.Json refused = refused
refused_as target body faults.Many refused = refused
refused_as target body faults.Name refused = refused
refused_as target body (faults.Value field) refused = refused
refused_as target body (faults.Twice field) refused = refused

pub query_many : (target body : List ℕ) (fault : FormFault) → IsMany (pairs_in target) fault → RequestRefused target body fault
query_many target body fault many = refused_as target body fault (inl many)

pub query_refused : (target body : List ℕ) (fault : FormFault) → PairsRefused (pairs_in target) fault → RequestRefused target body fault
query_refused target body fault refused = refused_as target body fault (inr (inl refused))

refused_in_body : (target body : List ℕ) (mid : WantedFields) (fault : FormFault) → SaysPairs (pairs_in target) mid → BodyRefused body mid fault → RequestRefused target body fault
refused_in_body target body mid fault says refused = refused_as target body fault (inr (inr (mid, says, refused)))

pub body_refused : {T : Type 0} (r : Result T FormFault) (target body : List ℕ) (mid : WantedFields)
    → SaysPairs (pairs_in target) mid → IfErr r (BodyRefused body mid)
    → IfErr r (RequestRefused target body)
body_refused (Ok wanted) target body mid says refused = refused
body_refused (Err fault) target body mid says refused = refused_in_body target body mid fault says refused

pub body_says : {E : Type 0} (r : Result WantedFields E) (target body : List ℕ) (mid : WantedFields)
    → AreFew (pairs_in target) → SaysPairs (pairs_in target) mid
    → IfOk r (SaysBody body mid) → IfOk r (Says target body)
body_says (Ok wanted) target body mid few says is = (few, (mid, says, is))
body_says (Err e) target body mid few says is = is

pub asked_from : {E : Type 0} (r : Result (Result AskedQuestion NoQuestion) E)
    (pairs : List NamedValue) (wanted : WantedFields) (now : ℤ) → SaysPairs pairs wanted
    → IfOk r (IsAsked wanted now) → IfOk r (IsAskedFrom pairs now)
asked_from (Ok (Ok asked)) pairs wanted now says is = (wanted, says, is)
asked_from (Ok (Err Limits)) pairs wanted now says is = (wanted, says, is)
asked_from (Ok (Err (Form fault))) pairs wanted now says is = absurd is
asked_from (Err e) pairs wanted now says is = is

pub asked_by : {E : Type 0} (r : Result (Result AskedQuestion NoQuestion) E) (target body : List ℕ)
    (wanted : WantedFields) (now : ℤ) → Says target body wanted → IfOk r (IsAsked wanted now)
    → IfOk r (IsAskedBy target body now)
asked_by (Ok (Ok asked)) target body wanted now says is = (wanted, says, is)
asked_by (Ok (Err Limits)) target body wanted now says is = (wanted, says, is)
asked_by (Ok (Err (Form fault))) target body wanted now says is = absurd is
asked_by (Err e) target body wanted now says is = is

-- the first octet of a body decides, unless it is a blank
pub begins : (octet : ℕ) (octets : List ℕ) → octet ≡ 123 → is_json (octet ∷ octets) ≡ true
unfolding is_json
begins octet octets is = rw is refl

pub ends : (octet : ℕ) (octets : List ℕ) → (octet ≡ 123 → ⊥) → is_ascii_whitespace octet ≡ false → is_json (octet ∷ octets) ≡ false
unfolding is_json
ends octet octets other blank =
    let no : nat_eq octet 123 ≡ false = grind (arith, nat_tests) in
    rw (no, blank) refl

pub goes_on : (octet : ℕ) (octets : List ℕ) → (octet ≡ 123 → ⊥) → is_ascii_whitespace octet ≡ true → is_json (octet ∷ octets) ≡ is_json octets
unfolding is_json
goes_on octet octets other blank =
    let no : nat_eq octet 123 ≡ false = grind (arith, nat_tests) in
    rw (no, blank) refl
