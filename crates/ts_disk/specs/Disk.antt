-- A disk: what a read gives, which images a crash may leave, and what each call does to them.
-- Between two syncs each written range and the part past the old end may hold any octets after a
-- crash, and octets outside stay.
use Rattle.std.specs.Prelude.{◌≡◌, ◌⊎◌, ◌<◌, ◌≤◌, ◌+◌, ◌-◌, ◌^◌, ℕ, max, List, ◌++◌, length, take}
use Rattle.std.specs.Prelude.{drop, Result, IfErr}
use Rattle.ts_disk.specs.declared.fault.DiskFault.{DiskFault}
use Rattle.ts_disk.specs.declared.fault.DiskFault.TheVariants.{Failed}

-- A disk: what a read gives now, the images that a crash now may leave, the moment now (each write
-- and each sync leads to the next one), the images that a crash at some moment since a moment t may
-- have left, and how often the device has failed.
pub record State : Type 1 where
  pub read : List ℕ
  pub may_leave : List ℕ → Type 0
  pub moment : ℕ
  pub left_since : ℕ → List ℕ → Type 0
  pub failures : ℕ

-- What is true of every disk. What a read gives is one of the images that a crash now may leave.
-- Now is one of the moments since any earlier one, and it is the only moment since now.
pub record IsDisk (disk : State) : Type 0 where
  pub bounded : length disk.read < 2 ^ 63
  pub read_is_left : disk.may_leave disk.read
  pub counts_now : (t : ℕ) (c : List ℕ) → t ≤ disk.moment → disk.may_leave c → disk.left_since t c
  pub only_now : (c : List ℕ) → disk.left_since disk.moment c → disk.may_leave c

-- One call of the device. Each image that a crash may leave after it comes by step from one that a
-- crash could leave before it. What a crash since an earlier moment may have left is what it was,
-- or what a crash may leave now.
pub record Call (step : List ℕ → List ℕ → Type 0) (old new : State) : Type 0 where
  pub images : (c : List ℕ) → new.may_leave c → (d : List ℕ) × old.may_leave d × step d c
  pub later : old.moment ≤ new.moment
  pub nothing_else : (t : ℕ) (c : List ℕ) → t ≤ old.moment → new.left_since t c
      → old.left_since t c ⊎ new.may_leave c
  pub keeps : (t : ℕ) (c : List ℕ) → t ≤ old.moment → old.left_since t c → new.left_since t c

-- the same image
abbrev pub Same : List ℕ → List ℕ → Type 0
Same old new = old ≡ new

-- Until a sync, a write of n octets may leave any octets in its range and past the old end. Octets
-- outside stay.
pub record Torn (at n : ℕ) (old new : List ℕ) : Type 0 where
  pub before : take at new ≡ take at old
  pub after : drop (at + n) new ≡ drop (at + n) old
  pub no_shorter : length old ≤ length new
  pub no_longer : length new ≤ max (length old) (at + n)

-- old with these octets at this offset
abbrev pub overwrite : List ℕ → ℕ → List ℕ → List ℕ
overwrite old at octets = take at old ++ octets ++ drop (at + length octets) old

-- a crash now leaves what a read gives, and nothing else
abbrev pub IsDurable : State → Type 0
IsDurable disk = (c : List ℕ) → disk.may_leave c → c ≡ disk.read

-- the device failed since: its count rose, or it is at its last value
abbrev pub DeviceFailed : State → State → Type 0
DeviceFailed old new = (old.failures < new.failures) ⊎ (new.failures ≡ 2 ^ 64 - 1)

-- The count of failures does not fall. A failure is answered only where the device failed.
pub record HasCause {T : Type 0} (old new : State) (result : Result T DiskFault) : Type 0 where
  pub rises : old.failures ≤ new.failures
  pub cause : IfErr result (λ fault. fault ≡ Failed → DeviceFailed old new)

-- At every moment since old, each image that a crash may leave is P. The third part serves a run
-- that began earlier.
pub record EveryImage (P : List ℕ → Type 0) (old new : State) : Type 0 where
  pub later : old.moment ≤ new.moment
  pub each : (c : List ℕ) → new.left_since old.moment c → P c
  pub before : (t : ℕ) (c : List ℕ) → t ≤ old.moment → new.left_since t c → old.left_since t c ⊎ P c
