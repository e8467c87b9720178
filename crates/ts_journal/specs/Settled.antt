-- What is true of a journal between two calls.
use Rattle.std.specs.Prelude.{◌≡◌, ◌≢◌, ◌⊎◌, ◌+◌, ◌<◌, ◌^◌, ℕ, List, length, cond}
use Rattle.ts_disk.specs.Disk.{State, IsDurable, DeviceFailed}
use Rattle.ts_journal.specs.Images.{Header, Member, member_of, at_generation, IsRight, Stands}
use Rattle.ts_journal.specs.Images.{front, IsShut}
use Rattle.ts_journal.specs.Images.{IsEarlier, EveryPair}
use Rattle.ts_journal.specs.declared.journal.Journal.{Journal}
use Rattle.ts_journal.specs.declared.journal.Stage.{Stage}
use Rattle.ts_journal.specs.declared.journal.Stage.TheVariants.{Live, Closed, Begun, Copying}

-- a durable disk on which these bodies stand, with the closed gate at end
pub record IsJournal (h : Header) (live : ℕ) (bodies : List (List ℕ)) (end : ℕ)
    (disk : State) : Type 0 where
  pub durable : IsDurable disk
  pub stands : Stands h live bodies disk.read
  pub ends : length (front h live stands.blocks) ≡ end

-- the header of the next generation
abbrev pub next : Header → Header
next h = at_generation h (h.generation + 1)

-- The other disk: live and of an earlier generation, or shut, or shut while bodies are copied to
-- it.
abbrev pub IsSpare : Stage → Header → List (List ℕ) → ℕ → State → Type 0
IsSpare Live h copied end disk = IsDurable disk × IsEarlier h disk.read
IsSpare Closed h copied end disk = IsDurable disk × IsShut disk.read
IsSpare Begun h copied end disk = IsDurable disk × IsShut disk.read × (h.generation + 1 < 2 ^ 64)
IsSpare Copying h copied end disk =
    IsJournal (next h) 0 copied end disk × (h.generation + 1 < 2 ^ 64)

abbrev pub header_of : {D : Type 0} → Journal D → Header
header_of j = record
    { node = j.node; nodes = j.nodes; group = j.group; generation = j.generation }

-- the node whose journal it is
abbrev pub member_in : {D : Type 0} → Journal D → Member
member_in j = member_of (header_of j)

-- These bodies are on the disk in use, and the other disk is as its stage says.
pub record Holds {D : Type 0} (state : D → State) (bodies copied : List (List ℕ))
    (j : Journal D) : Type 0 where
  pub right : IsRight (header_of j)
  pub live : ℕ
  pub is_live : live ≢ 0
  pub journal : IsJournal (header_of j) live bodies j.end (state j.current)
  pub spare : IsSpare j.stage (header_of j) copied j.copy_end (state j.spare)

-- it holds some bodies
abbrev pub IsSettled : {D : Type 0} → (D → State) → Journal D → Type 0
IsSettled state j = (bodies copied : List (List ℕ)) × Holds state bodies copied j

-- the two disks, in the order in which they were given
abbrev pub disk_a : {D : Type 0} → Journal D → D
disk_a j = cond j.swapped j.spare j.current

abbrev pub disk_b : {D : Type 0} → Journal D → D
disk_b j = cond j.swapped j.current j.spare

-- how many writes and syncs were made on the two disks: each takes its disk to the next moment
abbrev pub calls_on_disks : {D : Type 0} → (D → State) → Journal D → ℕ
calls_on_disks state j = (state j.current).moment + (state j.spare).moment

-- At every moment since the journal was old, every pair of images is P.
abbrev pub EveryMoment : {D : Type 0} → (D → State) → (List ℕ → List ℕ → Type 0) → Journal D
    → Journal D → Type 0
EveryMoment state P old new = EveryPair P (state (disk_a old)) (state (disk_b old))
    (state (disk_a new)) (state (disk_b new))

-- one of the two devices failed since
abbrev pub OneFailed : {D : Type 0} → (D → State) → Journal D → Journal D → Type 0
OneFailed state old new = DeviceFailed (state (disk_a old)) (state (disk_a new))
    ⊎ DeviceFailed (state (disk_b old)) (state (disk_b new))
