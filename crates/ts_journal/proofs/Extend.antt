-- The two durable writes of an append.
use Rattle.std.proofs.Common.{◌≡◌, ◌⊎◌, inl, ℕ, ◌+◌, List, [], ◌∷◌, ◌++◌, length, get_or, take, drop, ◌∙◌, arith}
use Rattle.ts_disk.specs.Disk.{State, Torn, overwrite, EveryImage}
use Rattle.ts_journal.specs.Gate.{HasClosedGate, HasOpenGate}
use Rattle.ts_journal.proofs.Gates.{front_length, torn_behind, written_behind, torn_gate, written_gate, either}
use Rattle.ts_journal.proofs.Moments.{weaker}

-- what an append may leave
abbrev pub Appends : ℕ → List ℕ → List ℕ → List ℕ → Type 0
Appends end text old image = HasClosedGate (take end old) image ⊎ HasOpenGate (take end old) text image

pub first : (end : ℕ) (text : List ℕ) (old mid : State) → HasClosedGate (take end old.read) old.read
    → EveryImage (Torn (end + 1) (length text) old.read) old mid → EveryImage (Appends end text old.read) old mid
first end text old mid closed run = weaker (Torn (end + 1) (length text) old.read) (Appends end text old.read) old mid
    (λ c torn. inl (torn_behind (take end old.read) closed.0 old.read end closed.1 (front_length end old.read closed) (length text) c torn)) run

staged : (end : ℕ) (text old mid : List ℕ) → HasClosedGate (take end old) old → mid ≡ overwrite old (end + 1) text → mid ≡ take end old ++ (0 ∷ text ++ drop (end + 1 + length text) old)
staged end text old mid closed behind = behind ∙ written_behind (take end old) closed.0 old end closed.1 (front_length end old closed) text

pub second : (end : ℕ) (text : List ℕ) (old mid new : State) → HasClosedGate (take end old.read) old.read → mid.read ≡ overwrite old.read (end + 1) text
    → EveryImage (Torn end 1 mid.read) mid new → EveryImage (Appends end text old.read) mid new
second end text old mid new closed behind run = weaker (Torn end 1 mid.read) (Appends end text old.read) mid new
    (λ c torn. either (take end old.read) text (drop (end + 1 + length text) old.read) c (get_or c end 0)
    (torn_gate (take end old.read) (text ++ drop (end + 1 + length text) old.read) mid.read end 0 (staged end text old.read mid.read closed behind) (front_length end old.read closed) c torn)) run

pub opened : (end : ℕ) (text old mid new : List ℕ) → HasClosedGate (take end old) old → mid ≡ overwrite old (end + 1) text → new ≡ overwrite mid end (1 ∷ []) → HasOpenGate (take end old) text new
opened end text old mid new closed behind is = (
  1,
  drop (end + 1 + length text) old,
  omega arith,
  is ∙ written_gate (take end old) (text ++ drop (end + 1 + length text) old) mid end 0 (staged end text old mid closed behind) (front_length end old closed) 1,
)
