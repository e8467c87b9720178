-- A record as contracts see it, before and after a call of its ledger.
use Rattle.std.proofs.Common.{◌≡◌, ℕ, Bool, List, Result, Ok, Err, OnOk, subst}
use Rattle.ts_disk.specs.Disk.{State, IsDisk}
use Rattle.ts_journal.specs.Images.{AnyPair, EveryPair}
use Rattle.ts_journal.specs.Settled.{EveryMoment, member_in, OneFailed, disk_a, disk_b}
use Rattle.ts_journal.specs.declared.journal.Journal.{Journal}
use Rattle.ts_synod.specs.declared.message.Fact.{Fact}
use Rattle.ts_record.specs.declared.ledger.Ledger.{Ledger}
use Rattle.ts_record.specs.Kept.{KeptRecord, Keeps, kept_of, member}
use Rattle.ts_record.specs.Record.{OpensToFrom, OpensToForce, ToBeforeOrAfter, EitherFailed}
use Rattle.ts_record.proofs.Ledgers.{any_from, rest_from, rest_moves, to_force}

module _ {D C : Type 0} (state : D → State) (lawful : (d : D) → IsDisk (state d)) (octets : C → List ℕ) where
  pub moves_view : (old : Ledger D C) (new : Journal D) (more : List (Fact C)) (broken : Bool)
      (v : KeptRecord D C) → kept_of old broken ≡ v
      → EveryMoment state (ToBeforeOrAfter octets (member_in old.journal) old.journal.swapped
      old.facts.items more) old.journal new
      → EveryPair (ToBeforeOrAfter octets (member v) v.swapped v.facts more) (state v.a) (state v.b) (state (disk_a new)) (state (disk_b new))
  moves_view old new more broken v is run =
      subst (λ (w : KeptRecord D C). EveryPair
      (ToBeforeOrAfter octets (member w) w.swapped w.facts more) (state w.a) (state w.b)
      (state (disk_a new)) (state (disk_b new))) is run

  pub rests_view : (old : Ledger D C) (more : List (Fact C)) (broken : Bool) (v : KeptRecord D C) → kept_of old broken ≡ v → Keeps state octets old
      → EveryPair (ToBeforeOrAfter octets (member v) v.swapped v.facts more) (state v.a) (state v.b) (state v.a) (state v.b)
  rests_view old more broken v is keeps =
      subst (λ (w : KeptRecord D C). EveryPair
      (ToBeforeOrAfter octets (member w) w.swapped w.facts more) (state w.a) (state w.b) (state w.a)
      (state w.b)) is (rest_moves state lawful octets old more keeps)

  pub from_view : (old : Ledger D C) (new : Journal D) (broken : Bool) (v : KeptRecord D C)
      → kept_of old broken ≡ v
      → EveryMoment state (OpensToFrom octets (member_in old.journal) old.journal.swapped
      old.facts.items) old.journal new
      → EveryPair (OpensToFrom octets (member v) v.swapped v.facts) (state v.a) (state v.b) (state (disk_a new)) (state (disk_b new))
  from_view old new broken v is run =
      subst (λ (w : KeptRecord D C). EveryPair (OpensToFrom octets (member w) w.swapped w.facts)
      (state w.a) (state w.b) (state (disk_a new)) (state (disk_b new))) is run

  pub rest_view : (old : Ledger D C) (broken : Bool) (v : KeptRecord D C) → kept_of old broken ≡ v
      → Keeps state octets old
      → EveryPair (OpensToFrom octets (member v) v.swapped v.facts) (state v.a) (state v.b)
      (state v.a) (state v.b)
  rest_view old broken v is keeps =
      subst (λ (w : KeptRecord D C). EveryPair (OpensToFrom octets (member w) w.swapped w.facts)
      (state w.a) (state w.b) (state w.a) (state w.b)) is (rest_from state lawful octets old keeps)

  pub force_view : (old : Ledger D C) (new : Journal D) (broken : Bool) (v : KeptRecord D C)
      → kept_of old broken ≡ v
      → EveryMoment state (OpensToForce octets (member_in old.journal) old.facts.items) old.journal
      new
      → EveryPair (OpensToForce octets (member v) v.facts) (state v.a) (state v.b) (state (disk_a new)) (state (disk_b new))
  force_view old new broken v is run = subst (λ (w : KeptRecord D C). EveryPair (OpensToForce octets (member w) w.facts) (state w.a) (state w.b) (state (disk_a new)) (state (disk_b new))) is run

  pub rest_force_view : (old : Ledger D C) (broken : Bool) (v : KeptRecord D C)
      → kept_of old broken ≡ v → Keeps state octets old
      → EveryPair (OpensToForce octets (member v) v.facts) (state v.a) (state v.b) (state v.a)
      (state v.b)
  rest_force_view old broken v is keeps =
      subst (λ (w : KeptRecord D C). EveryPair (OpensToForce octets (member w) w.facts) (state w.a)
      (state w.b) (state w.a) (state w.b)) is
      (to_force state lawful octets old.journal old.journal (member_in old.journal)
      old.journal.swapped old.facts.items (rest_from state lawful octets old keeps))

  pub any_view : (old : Ledger D C) (broken : Bool) (v : KeptRecord D C) → kept_of old broken ≡ v
      → Keeps state octets old
      → AnyPair (OpensToFrom octets (member v) v.swapped v.facts) (state v.a) (state v.b)
  any_view old broken v is keeps = subst (λ (w : KeptRecord D C). AnyPair (OpensToFrom octets (member w) w.swapped w.facts) (state w.a) (state w.b)) is (any_from state lawful octets old keeps)

  pub failed_view : (old : Ledger D C) (new : Journal D) (broken : Bool) (v : KeptRecord D C)
      → kept_of old broken ≡ v → OneFailed state old.journal new
      → EitherFailed (state v.a) (state v.b) (state (disk_a new)) (state (disk_b new))
  failed_view old new broken v is one = subst (λ (w : KeptRecord D C). EitherFailed (state w.a) (state w.b) (state (disk_a new)) (state (disk_b new))) is one

  pub opens_view : {T E : Type 0} (new : Ledger D C) (answer : Result T E)
      → OnOk answer (Keeps state octets new)
      → OnOk answer (AnyPair
      (OpensToFrom octets (member_in new.journal) new.journal.swapped new.facts.items)
      (state (disk_a new.journal)) (state (disk_b new.journal)))
  opens_view new (Ok x) keeps = any_from state lawful octets new keeps
  opens_view new (Err e) keeps = keeps
