-- SEQUENCE OF and SET OF with one item or more (X.680 26, X.690 8.10): how the items are read, and
-- the octets that they are.
use Rattle.std.specs.Prelude.{◌≡◌, ◌≢◌, ℕ, zero, suc, ◌==◌, List, [], ◌∷◌, ◌++◌, length, Result, Ok}
use Rattle.std.specs.Prelude.{Err, if◌then◌else◌}
use Rattle.ts_der.specs.declared.fault.DerFault.TheVariants.{Empty, WrongTag}
use Rattle.ts_der.specs.declared.fault.Fault.{Fault}
use Rattle.ts_der.specs.Answer.{◌>>=◌}
use Rattle.ts_der.specs.Rules.{Rule, rule}
use Rattle.ts_der.specs.Element.{Place, Tlv, Fits, encode, inside}
use Rattle.ts_der.specs.Reading.{fault_at, is_end, next_at, value_at, end_at, many}

-- a set of one element or more
abbrev pub some_rules : List Rule
some_rules = rule Empty (λ c. is_end c) ∷ []

-- the element that is next, and what it is read as
unfoldable pub each : {A : Type 0} → (Tlv → Result A Fault) → Place → Result (A × Place) Fault
each value here = next_at here >>= λ e. value e.0 >>= λ x. Ok (x, e.1)

-- what the one element within another is read as, and nothing after it
unfoldable pub alone : {A : Type 0} → (Tlv → Result A Fault) → Tlv → Result A Fault
alone value e = do
  x ← each value (inside e)
  done ← end_at x.1
  Ok x.0

-- an element, if it has this tag
unfoldable pub tagged_as : ℕ → Tlv → Result Tlv Fault
tagged_as tag e = if e.tag == tag then Ok e else Err (fault_at e.at WrongTag)

-- what an element of this tag is read as
unfoldable pub of_tag : {A : Type 0} → ℕ → (Tlv → Result A Fault) → Tlv → Result A Fault
of_tag tag value e = tagged_as tag e >>= value

-- the items within an element, of which there is one or more
unfoldable pub some_of : {A : Type 0} → (Tlv → Result A Fault) → Tlv → Result (List A) Fault
some_of value e = many (each value) (inside e) >>= λ xs. value_at some_rules
    (λ c. c) e >>= λ some. Ok xs

-- octets that are one element of a CHOICE (X.680 29), by its tag and content
pub record IsChoice {A : Type 0} (Is : ℕ → List ℕ → A → Type 0) (octets : List ℕ)
    (x : A) : Type 0 where
  pub tag : ℕ
  pub content : List ℕ
  pub fits : Fits tag content
  pub encoded : octets ≡ encode tag content
  pub form : Is tag content x

-- octets that are items one after another
abbrev pub AreItems : {A : Type 0} → (List ℕ → A → Type 0) → List ℕ → List A → Type 0
AreItems Encodes octets [] = octets ≡ []
AreItems Encodes octets (x ∷ xs) =
    (w : List ℕ) × (rest : List ℕ) × Encodes w x × (octets ≡ w ++ rest) × AreItems Encodes rest xs

-- one item or more
abbrev pub AreSome : {A : Type 0} → (List ℕ → A → Type 0) → List ℕ → List A → Type 0
AreSome Encodes octets xs = (xs ≢ []) × AreItems Encodes octets xs

-- ---- walking over items

abbrev pub first_then : {A : Type 0} → Result (A × Place) Fault → (Place → List A) → List A
first_then (Ok x) others = x.0 ∷ others x.1
first_then (Err f) others = []

-- the items at a place, up to the first that can't be read, where there are no more of them than
-- this
abbrev pub upto_from : {A : Type 0} → ℕ → (Tlv → Result A Fault) → Place → List A
upto_from zero value here = []
upto_from (suc n) value here = if is_end here.rest then []
    else first_then (each value here) (upto_from n value)

-- the items at a place, up to the first that can't be read: all of them where reading them was not
-- refused
unfoldable pub items_at : {A : Type 0} → (Tlv → Result A Fault) → Place → List A
items_at value here = upto_from (length here.rest) value here
