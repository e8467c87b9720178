-- What the first record of held octets is, as it is read.
use Rattle.std.specs.Prelude.{◌≡◌, ◌≤◌, ◌<◌, ◌+◌, ◌^◌, ℕ, List, ◌++◌, length, drop, Option, Some}
use Rattle.std.specs.Prelude.{None, Result, Ok, Err}
use Rattle.std.specs.declared.vec.Vec.{Vec}
use Rattle.std.specs.declared.alloc.Global.{Global}
use Rattle.ts_guard.specs.Sealed.{IsContent, sealed_record}
use Rattle.ts_guard.specs.Reading.{IsPartial, IsWrong}
use Rattle.ts_guard.specs.declared.fault.GuardFault.{GuardFault}
use Rattle.ts_guard.specs.declared.fault.GuardFault.TheVariants.{Memory}
use Rattle.ts_guard.specs.declared.fault.GuardFault.TheVariants.{Number}

-- a number is left, and so many octets are there
pub record HasRoom (number : ℕ) (held content : List ℕ) : Type 0 where
  pub below : number + 1 < 2 ^ 64
  pub enough : 37 + length content ≤ length held

-- the record of this number and this content is first
pub record IsFirst (key context : List ℕ) (number : ℕ) (held content : List ℕ) : Type 0 where
  pub fits : IsContent content
  pub is : held ≡ sealed_record key context number content ++ drop (37 + length content) held

abbrev pub IsNone : List ℕ → List ℕ → ℕ → List ℕ → GuardFault → Type 0
IsNone key context number held Memory = Unit {0}
IsNone key context number held Number = number + 1 ≡ 2 ^ 64
IsNone key context number held fault = (number + 1 < 2 ^ 64) × IsWrong key context number fault held

abbrev pub First : List ℕ → List ℕ → ℕ → List ℕ → Result (Option (Vec ℕ Global)) GuardFault → Type 0
First key context number held (Ok (Some content)) = IsFirst key context number held content.items
First key context number held (Ok None) = (number + 1 < 2 ^ 64) × IsPartial held
First key context number held (Err fault) = IsNone key context number held fault
