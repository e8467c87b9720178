-- What calls on all connections give.
use Rattle.std.specs.Prelude.{◌≡◌, ◌≤◌, ◌<◌, ℕ, Bool, true, false, List, [], length}
use Rattle.std.specs.Prelude.{Option, Some, None, Result, Ok, Err, slice_get}
use Rattle.ts_links.specs.declared.connections.ArriveFault.{ArriveFault}
use Rattle.ts_links.specs.declared.connections.ArriveFault.TheVariants as faults
use Rattle.ts_links.specs.declared.link.Link.{Link}
use Rattle.ts_links.specs.declared.link.Stage.{Stage}
use Rattle.ts_links.specs.declared.link.Stage.TheVariants as stages
use Rattle.ts_links.specs.declared.times.Deadlines.{Deadlines}
use Rattle.ts_links.specs.Times.{is_late}
use Rattle.ts_links.specs.Moves.{Opened, Came, Left, HasRoom, IsIdle, is_open}
use Rattle.ts_links.specs.Events.{Change, event}

-- each connection of a slot is so
abbrev pub At : List Link → ℕ → (Link → Type 0) → Type 0
At links slot P = (link : Link) → slice_get links slot ≡ Some link → P link

-- each of the first so many slots is open
abbrev pub AreOpen : List Link → ℕ → Type 0
AreOpen links n = (slot : ℕ) → slot < n → At links slot (λ link. is_open link.stage ≡ true)

-- the first closed slot; or each of the first so many is open
abbrev pub FirstClosed : List Link → ℕ → Option ℕ → Type 0
FirstClosed links n (Some slot) = (slot < length links)
    × At links slot (λ link. link.stage ≡ stages.Closed) × AreOpen links slot
FirstClosed links n None = AreOpen links n

-- the first slot that was closed is opened; or each is open
abbrev pub OpenGives : List Link → ℕ → Option ℕ → List Link → Type 0
OpenGives links now (Some slot) others =
    Change links (event slot now Opened) others × AreOpen links slot
OpenGives links now None others =
    (others ≡ links) × ((slot : ℕ) → At links slot (λ link. is_open link.stage ≡ true))

-- octets came; or the connection is not open, or has no room, or memory was refused
abbrev pub ArriveGives : List Link → ℕ → List ℕ → ℕ → Result (Unit {0}) ArriveFault → List Link
    → Type 0
ArriveGives links slot piece now (Ok done) others =
    Change links (event slot now (Came piece)) others
ArriveGives links slot piece now (Err faults.NotOpen) others =
    (others ≡ links) × At links slot (λ link. link.stage ≡ stages.Open → ⊥)
ArriveGives links slot piece now (Err faults.Full) others =
    (others ≡ links) × At links slot (λ link. (link.stage ≡ stages.Open) × (HasRoom link → ⊥))
ArriveGives links slot piece now (Err faults.Memory) others = others ≡ links

-- the first so many octets that waited left; or fewer wait
abbrev pub LeaveGives : List Link → ℕ → ℕ → ℕ → Bool → List Link → Type 0
LeaveGives links slot count now true others = (octets : List ℕ) × (length octets ≡ count)
    × Change links (event slot now (Left octets)) others
LeaveGives links slot count now false others =
    (others ≡ links) × At links slot (λ link. length link.waits < count)

-- of the idle connections in slots below a number, the one that has been idle longest
abbrev pub IsIdlest : List Link → ℕ → Option ℕ → Type 0
IsIdlest links n (Some slot) = (link : Link) × (slice_get links slot ≡ Some link) × IsIdle link
    × ((other : ℕ) → other < n
    → At links other (λ b. IsIdle b → link.times.idle ≤ b.times.idle))
IsIdlest links n None = (other : ℕ) → other < n → At links other (λ b. IsIdle b → ⊥)

-- more may be read on a slot: it is open and has room
abbrev pub MayRead : List Link → ℕ → Type 0
MayRead links slot = (link : Link) × (slice_get links slot ≡ Some link)
    × (link.stage ≡ stages.Open) × HasRoom link

-- ---- what a slot has; one that is not there is closed

abbrev pub with_link : {A : Type 0} → Option Link → (Link → A) → A → A
with_link (Some link) f other = f link
with_link None f other = other

abbrev pub held_at : List Link → ℕ → List ℕ
held_at links slot = with_link (slice_get links slot) (λ link. link.held) []

abbrev pub waits_at : List Link → ℕ → List ℕ
waits_at links slot = with_link (slice_get links slot) (λ link. link.waits) []

abbrev pub stage_at : List Link → ℕ → Stage
stage_at links slot = with_link (slice_get links slot) (λ link. link.stage) stages.Closed

abbrev pub is_late_at : Deadlines → List Link → ℕ → ℕ → Bool
is_late_at deadlines links slot now =
    with_link (slice_get links slot) (λ link. is_late deadlines link now) false
