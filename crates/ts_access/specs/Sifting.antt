-- What a sieve does at a call.
use Rattle.std.specs.Prelude.{◌≡◌, ◌≢◌, ◌⊎◌, ◌<◌, ◌+◌, ◌-◌, ℕ, List, [], ◌∷◌, ◌++◌, length}
use Rattle.std.specs.Prelude.{take, true, Option, Some, None, Result, Ok, Err}
use Rattle.std.specs.declared.vec.Vec.{Vec}
use Rattle.std.specs.declared.alloc.AllocError.{AllocError}
use Rattle.std.specs.declared.alloc.Global.{Global}
use Rattle.ts_access.specs.Frames.{Heads, IsFaulty, IsForbidden, IsShort}
use Rattle.ts_access.specs.Roles.{may}
use Rattle.ts_access.specs.declared.key.Role.{Role}
use Rattle.ts_access.specs.declared.sieve.Phase.{Phase}
use Rattle.ts_access.specs.declared.sieve.Phase.TheVariants as phases
use Rattle.ts_access.specs.declared.sieve.Sieve.{Sieve}

-- a frame of kind 00, which no server takes
abbrev pub refusal : List ℕ
refusal = 0 ∷ 0 ∷ 0 ∷ 2 ∷ 2 ∷ 0 ∷ []

-- where a stream is whose next frame begins with these octets
abbrev pub Starts : Role → ℕ → List ℕ → Phase → Type 0
Starts role node octets phases.Head = IsShort octets
Starts role node octets (phases.Frame left) = (n : ℕ) × Heads octets n × (left ≡ 4 + n)
    × (may role node (take (4 + n) octets) ≡ true)
Starts role node octets phases.Faulty = IsFaulty octets
Starts role node octets phases.Refused = IsForbidden role node octets

-- where it is, given where it was
abbrev pub Goes : Phase → Role → ℕ → List ℕ → Phase → Type 0
Goes phases.Head role node octets phase = Starts role node octets phase
Goes old role node octets phase = phase ≡ old

-- what is left of a frame, or less, where no more is there; all octets, behind a faulty length; and
-- the refusal in a forbidden frame's place, with all octets dropped
abbrev pub Passes : Phase → List ℕ → List ℕ → List ℕ → Phase → Type 0
Passes phases.Head held octets after phase = ⊥
Passes (phases.Frame left) held octets after phase = (held ≡ octets ++ after)
    × (((length octets ≡ left) × (phase ≡ phases.Head))
    ⊎ ((length octets < left) × (after ≡ []) × (phase ≡ phases.Frame (left - length octets))))
Passes phases.Faulty held octets after phase = (octets ≡ held) × (after ≡ [])
    × (phase ≡ phases.Faulty)
Passes phases.Refused held octets after phase = (octets ≡ refusal) × (after ≡ [])
    × (phase ≡ phases.Refused)

-- octets were handed on
pub record Hands (old : Sieve) (octets : List ℕ) (new : Sieve) : Type 0 where
  pub some : old.held ≢ []
  pub at : Phase
  pub goes : Goes old.phase old.role old.node old.held at
  pub passes : Passes at old.held octets new.held new.phase
  pub role : new.role ≡ old.role
  pub node : new.node ≡ old.node

-- there are none, or too few
abbrev pub IsIdle : Sieve → Type 0
IsIdle sieve = (sieve.held ≡ []) ⊎ ((sieve.phase ≡ phases.Head) × IsShort sieve.held)

abbrev pub Sifts : Sieve → Result (Option (Vec ℕ Global)) AllocError → Sieve → Type 0
Sifts old (Ok (Some octets)) new = Hands old octets.items new
Sifts old (Ok None) new = (new ≡ old) × IsIdle old
Sifts old (Err fault) new = new ≡ old

-- a piece came; behind a forbidden frame it is dropped
abbrev pub held_after : Phase → List ℕ → List ℕ → List ℕ
held_after phases.Refused held piece = held
held_after phase held piece = held ++ piece

pub record Came (old : Sieve) (piece : List ℕ) (new : Sieve) : Type 0 where
  pub held : new.held ≡ held_after old.phase old.held piece
  pub phase : new.phase ≡ old.phase
  pub role : new.role ≡ old.role
  pub node : new.node ≡ old.node

-- what a call hands on, whatever it says of a fault
abbrev pub handed_by : {E : Type 0} → Result (Option (Vec ℕ Global)) E → List ℕ
handed_by (Ok (Some octets)) = octets.items
handed_by (Ok None) = []
handed_by (Err fault) = []
