-- The fields of a question: what a text says of each, and when it is refused.
use Rattle.std.specs.Prelude.{◌≡◌, ◌≢◌, ◌⊎◌, ◌&&◌, ℕ, ℤ, List, [], ◌∷◌, ◌++◌, Bool, true, false}
use Rattle.std.specs.Prelude.{codes, length, map, nat_eq, not}
use Rattle.std.specs.Prelude.{Option, Some, None, if◌then◌else◌, ◌||◌}
use Rattle.std.specs.Str.{bytes_eq}
use Rattle.std.specs.declared.vec.Vec.{Vec}
use Rattle.std.specs.declared.alloc.Global.{Global}
use Rattle.ts_question.specs.declared.terms.Flags.{Flags}
use Rattle.ts_der.specs.Octets.{AreOctets}
use Rattle.ts_time.specs.Text.{IsGeneral}
use Rattle.ts_form.specs.Names.{field_named}
use Rattle.ts_form.specs.Pairs.{IsFirstRefused, NamedValue, SetsEach}
use Rattle.ts_literal.specs.Literals.{IsHex}
use Rattle.ts_form.specs.Values.{AreCertificates, AreWritten, IsDotted, IsPosition}
use Rattle.ts_form.specs.declared.field.Field.{Field}
use Rattle.ts_form.specs.declared.field.Field.TheVariants.{Chain, At, K, Hard, Deltas, Explicit}
use Rattle.ts_form.specs.declared.field.Field.TheVariants.{NoMap, NoAny, Policies, Purpose, Anchor}
use Rattle.ts_form.specs.declared.fault.FormFault.{FormFault}
use Rattle.ts_form.specs.declared.fault.FormFault.TheVariants as faults
use Rattle.ts_form.specs.declared.wanted.WantedFields.{WantedFields}

-- ---- flags

abbrev pub is_flag : Field → Bool
is_flag Hard = true
is_flag Deltas = true
is_flag Explicit = true
is_flag NoMap = true
is_flag NoAny = true
is_flag other = false

abbrev pub no_flags : Flags
no_flags = record {
  explicit_policy = false;
  inhibit_policy_mapping = false;
  inhibit_any_policy = false;
  hard = false;
  use_deltas = false;
}

-- the flags, with one more set
abbrev pub with_flag : Field → Flags → Flags
with_flag Hard flags = record flags { hard = true }
with_flag Deltas flags = record flags { use_deltas = true }
with_flag Explicit flags = record flags { explicit_policy = true }
with_flag NoMap flags = record flags { inhibit_policy_mapping = true }
with_flag NoAny flags = record flags { inhibit_any_policy = true }
with_flag other flags = flags

abbrev pub is_one_of : List (List ℕ) → List ℕ → Bool
is_one_of [] text = false
is_one_of (first ∷ others) text = bytes_eq text first || is_one_of others text

-- whether a text sets a flag, or says that it isn't set
abbrev pub says : List ℕ → Option Bool
says text =
    if is_one_of (codes "" ∷ codes "1" ∷ codes "on" ∷ codes "true" ∷ []) text then Some true
    else (if is_one_of (codes "0" ∷ codes "false" ∷ []) text then Some false else None)

-- a text sets a flag, or leaves it
abbrev pub SetsFlag : Field → List ℕ → WantedFields → WantedFields → Type 0
SetsFlag field text old new =
    ((says text ≡ Some true) × (new ≡ record old { flags = with_flag field old.flags }))
    ⊎ ((says text ≡ Some false) × (new ≡ old))

-- ---- the other fields

-- the octets of certificates
abbrev pub octets_of : List (Vec ℕ Global) → List (List ℕ)
octets_of certificates = map (λ c. c.items) certificates

-- nothing but certificates has changed
pub record IsSameBut (old new : WantedFields) : Type 0 where
  pub at_is : new.at ≡ old.at
  pub k_is : new.k ≡ old.k
  pub flags_are : new.flags ≡ old.flags
  pub policies_are : new.policies ≡ old.policies
  pub purpose_is : new.purpose ≡ old.purpose
  pub anchor_is : new.anchor ≡ old.anchor

-- these certificates are behind those that were there
pub record Appends (certificates : List (List ℕ)) (old new : WantedFields) : Type 0 where
  pub same : IsSameBut old new
  pub behind : octets_of new.chain.items ≡ octets_of old.chain.items ++ certificates

-- what a text says of a field; of some fields, if it is the first
abbrev pub Adds : Field → List ℕ → WantedFields → WantedFields → Type 0
Adds Chain text old new = (certificates : List (List ℕ)) × AreWritten text certificates
    × Appends certificates old new
Adds At text old new = (moment : ℤ) × IsGeneral text moment × (old.at ≡ None)
    × (new ≡ record old { at = Some moment })
Adds K text old new = (k : ℕ) × IsPosition text k × (old.k ≡ None)
    × (new ≡ record old { k = Some k })
Adds Policies text old new = (policy : List ℕ) × IsDotted text policy
    × (new.policies.items ≡ old.policies.items ++ policy ∷ [])
    × (new ≡ record old { policies = new.policies })
Adds Purpose text old new = (purpose : List ℕ) × IsDotted text purpose × (old.purpose ≡ None)
    × (new ≡ record old { purpose = Some purpose })
Adds Anchor text old new = (anchor : List ℕ) × IsHex 32 text anchor × (old.anchor ≡ None)
    × (new ≡ record old { anchor = Some anchor })
Adds field text old new = SetsFlag field text old new

-- an empty text says nothing, but of a flag
abbrev pub says_nothing : Field → List ℕ → Bool
says_nothing field text = nat_eq (length text) 0 && not (is_flag field)

-- a pair names a field, and says this of it, or nothing
pub record Sets (pair : NamedValue) (old new : WantedFields) : Type 0 where
  pub field : Field
  pub named : field_named pair.0 ≡ Some field
  pub adds : ((says_nothing field pair.1 ≡ true) × (new ≡ old))
      ⊎ ((says_nothing field pair.1 ≡ false) × Adds field pair.1 old new)

-- ---- refusals

-- a text is no value of a field
abbrev pub IsNoValue : Field → List ℕ → Type 0
IsNoValue Chain text = (certificates : List (List ℕ)) → ¬ (AreWritten text certificates)
IsNoValue At text = (moment : ℤ) → ¬ (IsGeneral text moment)
IsNoValue K text = (k : ℕ) → ¬ (IsPosition text k)
IsNoValue Policies text = (policy : List ℕ) → AreOctets policy → ¬ (IsDotted text policy)
IsNoValue Purpose text = (purpose : List ℕ) → AreOctets purpose → ¬ (IsDotted text purpose)
IsNoValue Anchor text = (anchor : List ℕ) → ¬ (IsHex 32 text anchor)
IsNoValue field text = says text ≡ None

-- a field that is given once has a value
abbrev pub IsGiven : Field → WantedFields → Type 0
IsGiven At wanted = wanted.at ≢ None
IsGiven K wanted = wanted.k ≢ None
IsGiven Purpose wanted = wanted.purpose ≢ None
IsGiven Anchor wanted = wanted.anchor ≢ None
IsGiven field wanted = ⊥

-- why a text is refused that is given a field
abbrev pub IsRefusedIn : Field → List ℕ → WantedFields → FormFault → Type 0
IsRefusedIn field text old faults.Memory = Unit {0}
IsRefusedIn field text old (faults.Value other) = (other ≡ field) × IsNoValue field text
IsRefusedIn field text old (faults.Twice other) = (other ≡ field) × IsGiven field old
IsRefusedIn field text old fault = ⊥

-- a pair names a field, and is refused there
pub record IsWrong (pair : NamedValue) (old : WantedFields) (fault : FormFault) : Type 0 where
  pub field : Field
  pub named : field_named pair.0 ≡ Some field
  pub says : says_nothing field pair.1 ≡ false
  pub refused : IsRefusedIn field pair.1 old fault

-- why a pair is refused: memory, no field has its name, or what it says of one
abbrev pub IsRefused : NamedValue → WantedFields → FormFault → Type 0
IsRefused pair old faults.Memory = Unit {0}
IsRefused pair old faults.Name = field_named pair.0 ≡ None
IsRefused pair old fault = IsWrong pair old fault

-- ---- pairs, one after another
abbrev pub SetsAll : List NamedValue → WantedFields → WantedFields → Type 0
SetsAll pairs old new = SetsEach Sets pairs old new

-- the first pair that is refused
abbrev pub IsRefusedInAll : List NamedValue → WantedFields → FormFault → Type 0
IsRefusedInAll pairs old fault = IsFirstRefused Sets IsRefused pairs old fault

-- the certificates of octets are behind those that were there
abbrev pub AddsCertificates : List ℕ → WantedFields → WantedFields → Type 0
AddsCertificates octets old new = (certificates : List (List ℕ))
    × AreCertificates octets certificates × Appends certificates old new

-- why octets are refused as certificates
abbrev pub AreRefused : List ℕ → FormFault → Type 0
AreRefused octets faults.Memory = Unit {0}
AreRefused octets (faults.Value Chain) =
    (certificates : List (List ℕ)) → ¬ (AreCertificates octets certificates)
AreRefused octets fault = ⊥

-- nothing is given
pub record IsNothing (wanted : WantedFields) : Type 0 where
  pub no_moment : wanted.at ≡ None
  pub no_k : wanted.k ≡ None
  pub flags_none : wanted.flags ≡ no_flags
  pub no_policies : wanted.policies.items ≡ []
  pub no_purpose : wanted.purpose ≡ None
  pub no_anchor : wanted.anchor ≡ None
  pub no_chain : wanted.chain.items ≡ []
