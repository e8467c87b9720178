-- What a command line gave: the values of its arguments.
use Rattle.std.specs.Prelude.{◌≡◌, ℕ, ℤ, Bool, false, List, [], Some, codes, unwrap_or}
use Rattle.std.specs.Prelude.{Option, None, MatchOption}
use Rattle.std.specs.Option.{option_map_or}
use Rattle.std.specs.Str.{bytes_eq}
use Rattle.clap.specs.Walk.{Row, Text, all_of, first_of}
use Rattle.ts_time.specs.Text.{IsGeneral}
use Rattle.ts_literal.specs.Literals.{IsHex, IsNumberIn}

-- an argument gives this text
abbrev pub IsAt : Text → List Row → Text → Type 0
IsAt id rows text = first_of id rows ≡ Some text

-- an argument gives this number
pub record IsNumberAt (id : Text) (rows : List Row) (least most number : ℕ) : Type 0 where
  pub text : Text
  pub at : IsAt id rows text
  pub is : IsNumberIn least most text number

-- an argument gives this number, or is not given, and the number is the one for that
abbrev pub IsNumberOr : Text → List Row → ℕ → ℕ → ℕ → ℕ → Type 0
IsNumberOr id rows least most absent number = MatchOption (first_of id rows) (number ≡ absent)
    (λ text. IsNumberIn least most text number)

-- an argument gives this id of an anchor or a list
pub record IsDigestAt (id : Text) (rows : List Row) (digest : List ℕ) : Type 0 where
  pub text : Text
  pub at : IsAt id rows text
  pub is : IsHex 32 text digest

-- an argument gives this moment
pub record IsMomentAt (id : Text) (rows : List Row) (moment : ℤ) : Type 0 where
  pub text : Text
  pub at : IsAt id rows text
  pub is : IsGeneral text moment

-- an argument gives this moment; there is none where it is not given, or gives 'now'
abbrev pub IsMomentOrNow : Option Text → Option ℤ → Type 0
IsMomentOrNow None moment = moment ≡ None
IsMomentOrNow (Some text) None = text ≡ codes "now"
IsMomentOrNow (Some text) (Some moment) = IsGeneral text moment

-- all texts that an argument gives, none where it is not given
abbrev pub all_at : Text → List Row → List Text
all_at id rows = unwrap_or (all_of id rows) []

-- a flag is set
abbrev pub is_set : Text → List Row → Bool
is_set id rows = option_map_or (λ text. bytes_eq text (codes "true")) (first_of id rows) false
