-- What a connection whose key was found does at a call.
use Rattle.std.specs.Prelude.{◌≡◌, ◌≢◌, ◌⊎◌, ◌<◌, ◌+◌, ◌^◌, ℕ, List, [], Option, Some, None}
use Rattle.std.specs.Prelude.{Bool, true, Result, Ok, Err}
use Rattle.std.specs.declared.vec.Vec.{Vec}
use Rattle.std.specs.declared.alloc.Global.{Global}
use Rattle.ts_guard.specs.Opening.{HasOpened, IsFault, IsOpenerFor}
use Rattle.ts_guard.specs.Reading.{IsPartial}
use Rattle.ts_guard.specs.Sealing.{HasSealed, IsSealerFor, IsUnsealed}
use Rattle.ts_guard.specs.declared.fault.GuardFault.{GuardFault}
use Rattle.ts_guard.specs.declared.fault.GuardFault.TheVariants.{Memory}
use Rattle.ts_guard.specs.declared.opener.Opener.{Opener}
use Rattle.ts_guard.specs.declared.sealer.Sealer.{Sealer}
use Rattle.ts_access.specs.Sifting.{Came, Hands, IsIdle}
use Rattle.ts_access.specs.declared.fault.EntranceFault.{EntranceFault}
use Rattle.ts_access.specs.declared.fault.EntranceFault.TheVariants as faults
use Rattle.ts_access.specs.declared.line.Line.{Line}

-- a content was let through, whatever the key and the context that the opener is for
abbrev pub LetsThrough : Opener → List ℕ → Opener → Type 0
LetsThrough old content new = (key context : List ℕ) → IsOpenerFor key context old
    → HasOpened key context old content new

-- why none was let through, whatever the key and the context
abbrev pub Holds : Opener → GuardFault → Type 0
Holds opener fault = (key context : List ℕ) → IsOpenerFor key context opener
    → IsFault key context opener fault

-- less than a whole record is there, and nothing changed
abbrev pub IsStill : Opener → Opener → Type 0
IsStill old new = (key context : List ℕ) → IsOpenerFor key context old
    → (new ≡ old) × (old.number + 1 < 2 ^ 64) × IsPartial old.held

-- a record was written behind other octets, or why not, whatever the key and the context that the
-- sealer is for
abbrev pub IsSealed : Sealer → List ℕ → List ℕ → Result Bool GuardFault → Sealer → List ℕ → Type 0
IsSealed old octets before (Ok done) new after = (done ≡ true)
    × ((key context : List ℕ) → IsSealerFor key context old
    → HasSealed key context old octets before new after)
IsSealed old octets before (Err fault) new after = (key context : List ℕ)
    → IsSealerFor key context old → (new ≡ old) × (after ≡ before) × IsUnsealed old octets fault

-- octets were handed on
pub record HandsOn (old : Line) (octets : List ℕ) (new : Line) : Type 0 where
  pub hands : Hands old.sieve octets new.sieve
  pub opener : new.channel.opener ≡ old.channel.opener
  pub sealer : new.channel.sealer ≡ old.channel.sealer

-- there were none, and the next record was opened
pub record OpensOne (old : Line) (octets : List ℕ) (new : Line) : Type 0 where
  pub none : octets ≡ []
  pub idle : IsIdle old.sieve
  pub content : List ℕ
  pub opens : LetsThrough old.channel.opener content new.channel.opener
  pub came : Came old.sieve content new.sieve
  pub sealer : new.channel.sealer ≡ old.channel.sealer

abbrev pub GoesOn : Line → Option (Vec ℕ Global) → Line → Type 0
GoesOn old (Some octets) new = HandsOn old octets.items new ⊎ OpensOne old octets.items new
GoesOn old None new = (new.sieve ≡ old.sieve) × (new.channel.sealer ≡ old.channel.sealer)
    × IsIdle old.sieve × IsStill old.channel.opener new.channel.opener

-- why it ends
abbrev pub EndsBy : Line → EntranceFault → Type 0
EndsBy line faults.Memory = Unit {0}
EndsBy line (faults.Guard fault) = (fault ≢ Memory) × IsIdle line.sieve
    × Holds line.channel.opener fault
EndsBy line fault = ⊥

-- a record of it was sealed, and nothing else changed
abbrev pub SealsOn : Line → List ℕ → List ℕ → Result Bool GuardFault → Line → List ℕ → Type 0
SealsOn old octets before result new after = (new.sieve ≡ old.sieve)
    × (new.channel.opener ≡ old.channel.opener)
    × IsSealed old.channel.sealer octets before result new.channel.sealer after
