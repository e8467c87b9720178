-- A record that is opened in memory.
use Rattle.std.proofs.Common.{◌≡◌, ◌∙◌, ◌⊎◌, List, ℕ, Bool, true, false, inl, inr, ⊎_elim, ap, subst, sym}
use Rattle.ts_disk.specs.Disk.{State, IsDisk}
use Rattle.ts_journal.specs.Images.{AnyPair, Member, Opens, OpensFrom}
use Rattle.ts_command.specs.declared.command.Command.{Command}
use Rattle.ts_command.specs.Octets.{octets_of}
use Rattle.ts_record.specs.Facts.{OpensTo}
use Rattle.ts_record.specs.Opening.{IsFault}
use Rattle.ts_record.specs.Record.{OpensToFrom}
use Rattle.ts_record.specs.declared.fault.RecordFault.{RecordFault}
use Rattle.ts_record.specs.declared.fault.RecordFault.TheVariants.{Memory, DiskFailed, Broken}
use Rattle.ts_record.specs.declared.fault.RecordFault.TheVariants.{GenerationsExhausted}
use Rattle.ts_record.specs.declared.fault.RecordFault.TheVariants.{NotFormatted, OldVersion, Damaged}
use Rattle.ts_synod.specs.declared.message.Fact.{Fact}
use Rattle.ts_replay.specs.Recorded.{IsNoRecord, or_memory}

from_one : (m : Member) (swapped : Bool) (bodies : List (List ℕ)) (a b : List ℕ) → OpensFrom m swapped bodies a b → Opens m bodies a b
from_one m true bodies a b h = inr h
from_one m false bodies a b h = inl h

to_facts : (m : Member) (swapped : Bool) (facts : List (Fact Command)) (a b : List ℕ) → OpensToFrom octets_of m swapped facts a b → OpensTo octets_of m facts a b
to_facts m swapped facts a b h = (h.0, from_one m swapped h.0 a b h.1, h.2)

-- what each pair of images opens to, the octets open to
pub opened : (m : Member) (swapped : Bool) (facts : List (Fact Command)) (a b : State) (first second : List ℕ) → IsDisk a → IsDisk b
    → a.read ≡ first → b.read ≡ second → AnyPair (OpensToFrom octets_of m swapped facts) a b → OpensTo octets_of m facts first second
opened m swapped facts a b first second da db x y each =
    let here = to_facts m swapped facts a.read b.read (each a.read b.read da.read_is_left db.read_is_left) in
    subst (λ s. OpensTo octets_of m facts first s) y (subst (λ f. OpensTo octets_of m facts f b.read) x here)

-- two that open open as the octets of their disks
pub on_disks : (m : Member) (facts : List (Fact Command)) (a b first second : List ℕ) → a ≡ first → b ≡ second → OpensTo octets_of m facts first second → OpensTo octets_of m facts a b
on_disks m facts a b first second x y h =
    subst (λ s. OpensTo octets_of m facts a s) (sym y) (subst (λ f. OpensTo octets_of m facts f second) (sym x) h)

no_record : (a b new_a new_b : State) (fault : RecordFault) → IsFault octets_of a b new_a new_b fault → IsNoRecord a.read b.read (or_memory fault)
no_record a b new_a new_b Memory is = tt
no_record a b new_a new_b DiskFailed is = tt
no_record a b new_a new_b Broken is = absurd is
no_record a b new_a new_b GenerationsExhausted is = absurd is
no_record a b new_a new_b NotFormatted is = is
no_record a b new_a new_b OldVersion is = is
no_record a b new_a new_b (Damaged at) is = is

-- why there is no record
pub why_not : (a b new_a new_b : State) (first second : List ℕ) (fault answered : RecordFault) → a.read ≡ first → b.read ≡ second → answered ≡ or_memory fault
    → IsFault octets_of a b new_a new_b fault → IsNoRecord first second answered
why_not a b new_a new_b first second fault answered x y same is =
    let here = no_record a b new_a new_b fault is in
    subst (λ f. IsNoRecord first second f) (sym same) (subst (λ s. IsNoRecord first s (or_memory fault)) y (subst (λ f. IsNoRecord f b.read (or_memory fault)) x here))

-- for want of memory
pub memory_alone : (fault answered : RecordFault) → answered ≡ or_memory fault → (fault ≡ Memory) ⊎ (fault ≡ DiskFailed) → answered ≡ Memory
memory_alone fault answered same why = ⊎_elim (λ e. same ∙ ap or_memory e) (λ e. same ∙ ap or_memory e) why
