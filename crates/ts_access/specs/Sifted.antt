-- What was handed on of a stream of frames: whole frames that the role may ask, and then a part of
-- one more, or a faulty length and what follows it, or the refusal of a forbidden frame.
use Rattle.std.specs.Prelude.{◌≡◌, ℕ, List, [], ◌++◌}
use Rattle.std.specs.List.{AllByRecursion, concat}
use Rattle.ts_access.specs.Frames.{IsAllowed, IsFaulty, IsForbidden, IsPart}
use Rattle.ts_access.specs.Sifting.{refusal}
use Rattle.ts_access.specs.declared.key.Role.{Role}
use Rattle.ts_access.specs.declared.sieve.Phase.{Phase}
use Rattle.ts_access.specs.declared.sieve.Phase.TheVariants as phases
use Rattle.ts_access.specs.declared.sieve.Sieve.{Sieve}

-- what there is behind the whole frames
abbrev pub Ends : Role → ℕ → Phase → List ℕ → Type 0
Ends role node phases.Head rest = rest ≡ []
Ends role node (phases.Frame left) rest = IsPart role node rest left
Ends role node phases.Faulty rest = IsFaulty rest
Ends role node phases.Refused rest = (front more : List ℕ) × (rest ≡ front ++ more)
    × IsForbidden role node front

-- what is handed on of that
abbrev pub output_in : Phase → List ℕ → List ℕ
output_in phases.Refused rest = refusal
output_in phase rest = rest

-- of a stream these octets were handed on
pub record Admits (role : Role) (node : ℕ) (phase : Phase) (stream handed : List ℕ) : Type 0 where
  pub frames : List (List ℕ)
  pub rest : List ℕ
  pub each : AllByRecursion (IsAllowed role node) frames
  pub ends : Ends role node phase rest
  pub stream_is : stream ≡ concat frames ++ rest
  pub handed_is : handed ≡ concat frames ++ output_in phase rest

-- a sieve to which this stream came, and that has handed on these octets
pub record IsSieve (sieve : Sieve) (stream handed : List ℕ) : Type 0 where
  pub seen : List ℕ
  pub stream_is : stream ≡ seen ++ sieve.held
  pub admits : Admits sieve.role sieve.node sieve.phase seen handed
  pub dropped : sieve.phase ≡ phases.Refused → sieve.held ≡ []
