-- How far a rewrite of a record is, and what each of its steps does.
use Rattle.std.specs.Prelude.{◌≡◌, ◌≢◌, ◌⊎◌, ◌≤◌, ◌+◌, ◌++◌, ℕ, Bool, true, false, cond, List}
use Rattle.std.specs.Prelude.{length, take}
use Rattle.std.specs.List.{AllByRecursion}
use Rattle.ts_journal.specs.declared.journal.Stage.{Stage}
use Rattle.ts_journal.specs.declared.journal.Stage.TheVariants.{Live, Closed, Begun, Copying}
use Rattle.ts_synod.specs.Force.{SameForce}
use Rattle.ts_synod.specs.declared.message.Fact.{Fact}
use Rattle.ts_record.specs.declared.progress.Progress.{Progress}
use Rattle.ts_record.specs.declared.progress.Progress.TheVariants.{Working, Switched}
use Rattle.ts_record.specs.Compacted.{compact}
use Rattle.ts_record.specs.Facts.{fact_encoding, FactFits, AreFacts}

-- None is begun; the other disk is shut, and these facts are to be copied; or its header is
-- written, and so many of them are copied.
pub data Rewrite (C : Type 0) : Type 0 where
  idle : Rewrite C
  begun : List (Fact C) → Rewrite C
  copying : List (Fact C) → ℕ → Rewrite C

-- how far it is, by what the disk that isn't in use holds
abbrev pub rewrite_at : {C : Type 0} → Stage → List (Fact C) → ℕ → Rewrite C
rewrite_at Live list done = idle
rewrite_at Closed list done = idle
rewrite_at Begun list done = begun list
rewrite_at Copying list done = copying list done

-- the same, with more facts appended: they are to be copied too
abbrev pub with_more : {C : Type 0} → Rewrite C → List (Fact C) → Rewrite C
with_more idle more = idle
with_more (begun list) more = begun (list ++ more)
with_more (copying list done) more = copying (list ++ more) done

-- nothing is left to be copied
abbrev pub IsLast : {C : Type 0} → Rewrite C → Type 0
IsLast idle = ⊥
IsLast (begun list) = ⊥
IsLast (copying list done) = done ≡ length list

-- What a step finds and leaves but for the two disks: the facts, whether the second disk is in use,
-- its generation, and how far the rewrite is.
pub record Course (C : Type 0) : Type 0 where
  pub facts : List (Fact C)
  pub swapped : Bool
  pub generation : ℕ
  pub rewrite : Rewrite C

-- the same course but for how far the rewrite is
abbrev pub on : {C : Type 0} → Course C → Rewrite C → Course C
on old rewrite = record {
  facts = old.facts;
  swapped = old.swapped;
  generation = old.generation;
  rewrite = rewrite;
}

-- the copied facts are the record's, on the other disk, of the next generation
abbrev pub switch : {C : Type 0} → Course C → List (Fact C) → Course C
switch old list = record {
  facts = list;
  swapped = cond old.swapped false true;
  generation = old.generation + 1;
  rewrite = idle;
}

-- One step: the facts that make up the force of all are to be copied; none is copied yet; one more
-- is copied; or, where none is left, the copied facts are the record's.
abbrev pub StepsFrom : {C : Type 0} → Rewrite C → Course C → Progress → Course C → Type 0
StepsFrom idle old answer new = (answer ≡ Working) × (new ≡ on old (begun (compact old.facts)))
StepsFrom (begun list) old answer new = (answer ≡ Working) × (new ≡ on old (copying list 0))
StepsFrom (copying list done) old answer new =
    ((done ≢ length list) × (answer ≡ Working) × (new ≡ on old (copying list (done + 1))))
    ⊎ ((done ≡ length list) × (answer ≡ Switched) × (new ≡ switch old list))

abbrev pub Steps : {C : Type 0} → Course C → Progress → Course C → Type 0
Steps old answer new = StepsFrom old.rewrite old answer new

-- it can be written as a body of its own
abbrev pub IsReady : {C : Type 0} → (C → List ℕ) → Fact C → Type 0
IsReady octets fact = FactFits octets fact × (length (fact_encoding octets fact) ≤ 4194500)

-- the facts to be copied are of the force of all, and those copied stand on the other disk
abbrev pub IsUnderWay : {C : Type 0} → (C → List ℕ) → List (Fact C) → List (List ℕ) → Rewrite C
    → Type 0
IsUnderWay octets facts copied idle = Unit {0}
IsUnderWay octets facts copied (begun list) =
    SameForce list facts × AllByRecursion (IsReady octets) list
IsUnderWay octets facts copied (copying list done) = SameForce list facts
    × AllByRecursion (IsReady octets) list × (done ≤ length list)
    × AreFacts octets copied (take done list)
