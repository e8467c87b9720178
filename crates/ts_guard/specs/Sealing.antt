-- What a sealer does.
use Rattle.std.specs.Prelude.{◌≡◌, ◌⊎◌, ◌<◌, ◌+◌, ◌^◌, ℕ, List, ◌++◌, length, Result, Ok, Err}
use Rattle.ts_hmac.specs.Holding.{Holds}
use Rattle.ts_guard.specs.Sealed.{IsContent, sealed_record}
use Rattle.ts_guard.specs.declared.fault.GuardFault.{GuardFault}
use Rattle.ts_guard.specs.declared.fault.GuardFault.TheVariants.{Memory, Length}
use Rattle.ts_guard.specs.declared.fault.GuardFault.TheVariants.{Number}
use Rattle.ts_guard.specs.declared.sealer.Sealer.{Sealer}

-- a sealer of records with this key in this context
abbrev pub IsSealerFor : List ℕ → List ℕ → Sealer → Type 0
IsSealerFor key context sealer = Holds sealer.start key context

-- which has sealed nothing
pub record IsNewSealer (key context : List ℕ) (sealer : Sealer) : Type 0 where
  pub for : IsSealerFor key context sealer
  pub number : sealer.number ≡ 0

-- the record of the next number and this content was written behind the others
pub record HasSealed (key context : List ℕ) (old : Sealer) (content before : List ℕ) (new : Sealer)
    (after : List ℕ) : Type 0 where
  pub below : old.number + 1 < 2 ^ 64
  pub fits : IsContent content
  pub written : after ≡ before ++ sealed_record key context old.number content
  pub number : new.number ≡ old.number + 1
  pub start : new.start ≡ old.start

-- why nothing was written: no content, or one that is too long; all numbers are used; memory was
-- refused
abbrev pub IsUnsealed : Sealer → List ℕ → GuardFault → Type 0
IsUnsealed sealer content Length = (length content ≡ 0) ⊎ (65536 < length content)
IsUnsealed sealer content Number = sealer.number + 1 ≡ 2 ^ 64
IsUnsealed sealer content Memory = Unit {0}
IsUnsealed sealer content other = ⊥

abbrev pub Seals : List ℕ → List ℕ → Sealer → List ℕ → List ℕ → Result (Unit {0}) GuardFault
    → Sealer → List ℕ → Type 0
Seals key context old content before (Ok done) new after =
    HasSealed key context old content before new after
Seals key context old content before (Err fault) new after = (new ≡ old) × (after ≡ before)
    × IsUnsealed old content fault
