-- What pages of rows and commands are asked for by.
use Rattle.std.specs.Prelude.{◌≡◌, ◌≢◌, ◌⊎◌, ℕ, List, [], ◌∷◌, Option, Some, None, codes}
use Rattle.std.specs.Prelude.{if◌then◌else◌}
use Rattle.std.specs.Str.{bytes_eq}
use Rattle.ts_form.specs.Pairs.{IsFirstRefused, NamedValue, SetsEach}
use Rattle.ts_literal.specs.Literals.{IsHex, IsNumber}
use Rattle.ts_form.specs.Values.{IsPosition}
use Rattle.ts_form.specs.declared.field.Field.{Field}
use Rattle.ts_form.specs.declared.field.Field.TheVariants.{K, From}
use Rattle.ts_form.specs.declared.fault.FormFault.{FormFault}
use Rattle.ts_form.specs.declared.fault.FormFault.TheVariants as faults
use Rattle.ts_form.specs.declared.rows.RowsWanted.{RowsWanted}

-- the field of a page that has a name
abbrev pub field_named : List ℕ → Option Field
field_named name =
    if bytes_eq name (codes "k") then Some K
    else (if bytes_eq name (codes "from") then Some From else None)

-- a number for a field that has none
abbrev pub Adds : Field → List ℕ → RowsWanted → RowsWanted → Type 0
Adds K text old new = (k : ℕ) × IsPosition text k × (old.k ≡ None)
    × (new ≡ record old { k = Some k })
Adds From text old new = (from : ℕ) × IsNumber text from × (old.from ≡ None)
    × (new ≡ record old { from = Some from })
Adds other text old new = ⊥

-- a pair names a field, and says this of it; an empty text says nothing
pub record Sets (pair : NamedValue) (old new : RowsWanted) : Type 0 where
  pub field : Field
  pub named : field_named pair.0 ≡ Some field
  pub adds : ((pair.1 ≡ []) × (new ≡ old)) ⊎ ((pair.1 ≢ []) × Adds field pair.1 old new)

abbrev pub SetsAll : List NamedValue → RowsWanted → RowsWanted → Type 0
SetsAll pairs old new = SetsEach Sets pairs old new

-- ---- refusals

abbrev pub IsRefusedIn : Field → List ℕ → RowsWanted → FormFault → Type 0
IsRefusedIn K text old (faults.Value K) = (k : ℕ) → ¬ (IsPosition text k)
IsRefusedIn From text old (faults.Value From) = (from : ℕ) → ¬ (IsNumber text from)
IsRefusedIn K text old (faults.Twice K) = old.k ≢ None
IsRefusedIn From text old (faults.Twice From) = old.from ≢ None
IsRefusedIn field text old fault = ⊥

-- a pair names a field, and is refused there
pub record IsWrong (pair : NamedValue) (old : RowsWanted) (fault : FormFault) : Type 0 where
  pub field : Field
  pub named : field_named pair.0 ≡ Some field
  pub says : pair.1 ≢ []
  pub refused : IsRefusedIn field pair.1 old fault

-- why a pair is refused: no field of a page has its name, or what it says of one
abbrev pub IsRefused : NamedValue → RowsWanted → FormFault → Type 0
IsRefused pair old faults.Name = field_named pair.0 ≡ None
IsRefused pair old fault = IsWrong pair old fault

-- the first pair that is refused
abbrev pub IsRefusedInAll : List NamedValue → RowsWanted → FormFault → Type 0
IsRefusedInAll pairs old fault = IsFirstRefused Sets IsRefused pairs old fault

-- nothing is given
abbrev pub no_rows : RowsWanted
no_rows = record { k = None; from = None }

-- the pairs name one command, by the digits of its id
abbrev pub NameId : List NamedValue → List ℕ → Type 0
NameId pairs id = (text : List ℕ) × (pairs ≡ (codes "id", text) ∷ []) × IsHex 16 text id
