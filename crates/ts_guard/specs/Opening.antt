-- What an opener does.
use Rattle.std.specs.Prelude.{◌≡◌, ◌<◌, ◌+◌, ◌^◌, ℕ, List, ◌++◌, Option, Some, None, Result, Ok}
use Rattle.std.specs.Prelude.{Err}
use Rattle.std.specs.declared.vec.Vec.{Vec}
use Rattle.std.specs.declared.alloc.Global.{Global}
use Rattle.ts_hmac.specs.Holding.{Holds}
use Rattle.ts_guard.specs.Sealed.{IsContent, sealed_record}
use Rattle.ts_guard.specs.Reading.{IsPartial, IsWrong}
use Rattle.ts_guard.specs.declared.fault.GuardFault.{GuardFault}
use Rattle.ts_guard.specs.declared.fault.GuardFault.TheVariants.{Memory}
use Rattle.ts_guard.specs.declared.fault.GuardFault.TheVariants.{Number}
use Rattle.ts_guard.specs.declared.opener.Opener.{Opener}

-- an opener of records that are sealed with this key in this context
abbrev pub IsOpenerFor : List ℕ → List ℕ → Opener → Type 0
IsOpenerFor key context opener = Holds opener.start key context

-- of which nothing was opened, and these octets are held
pub record IsNewOpener (key context octets : List ℕ) (opener : Opener) : Type 0 where
  pub for : IsOpenerFor key context opener
  pub number : opener.number ≡ 0
  pub held : opener.held ≡ octets

-- a piece came
pub record HasCome (old : Opener) (piece : List ℕ) (new : Opener) : Type 0 where
  pub held : new.held ≡ old.held ++ piece
  pub number : new.number ≡ old.number
  pub start : new.start ≡ old.start

-- the content of the first record was let through, which bears the tag of its number
pub record HasOpened (key context : List ℕ) (old : Opener) (content : List ℕ)
    (new : Opener) : Type 0 where
  pub below : old.number + 1 < 2 ^ 64
  pub fits : IsContent content
  pub held : old.held ≡ sealed_record key context old.number content ++ new.held
  pub number : new.number ≡ old.number + 1
  pub start : new.start ≡ old.start

-- why nothing was let through: all numbers are used; or this is wrong in the next record's place;
-- or memory was refused
abbrev pub IsFault : List ℕ → List ℕ → Opener → GuardFault → Type 0
IsFault key context opener Memory = Unit {0}
IsFault key context opener Number = opener.number + 1 ≡ 2 ^ 64
IsFault key context opener fault = (opener.number + 1 < 2 ^ 64)
    × IsWrong key context opener.number fault opener.held

-- what a call that takes the next content answers
abbrev pub Opens : List ℕ → List ℕ → Opener → Result (Option (Vec ℕ Global)) GuardFault → Opener
    → Type 0
Opens key context old (Ok (Some content)) new = HasOpened key context old content.items new
Opens key context old (Ok None) new = (new ≡ old) × (old.number + 1 < 2 ^ 64) × IsPartial old.held
Opens key context old (Err fault) new = (new ≡ old) × IsFault key context old fault
