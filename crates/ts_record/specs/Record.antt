-- What happens to a record while facts are appended, and while it is rewritten.
use Rattle.std.specs.Prelude.{◌⊎◌, ◌++◌, ℕ, List, Bool}
use Rattle.ts_disk.specs.Disk.{State, DeviceFailed}
use Rattle.ts_journal.specs.Images.{Member, OpensFrom}
use Rattle.ts_synod.specs.Force.{SameForce}
use Rattle.ts_synod.specs.declared.message.Fact.{Fact}
use Rattle.ts_record.specs.Facts.{AreFacts, OpensTo}

-- the pair opens to these facts, from the disk that is in use: the second where the two are swapped
abbrev pub OpensToFrom : {C : Type 0} → (C → List ℕ) → Member → Bool → List (Fact C) → List ℕ
    → List ℕ → Type 0
OpensToFrom octets member swapped facts a b =
    (bodies : List (List ℕ)) × OpensFrom member swapped bodies a b × AreFacts octets bodies facts

-- the pair opens to the facts before, or to those with all of the new ones, and from the disk in
-- use
abbrev pub ToBeforeOrAfter : {C : Type 0} → (C → List ℕ) → Member → Bool → List (Fact C)
    → List (Fact C) → List ℕ → List ℕ → Type 0
ToBeforeOrAfter octets member swapped before more a b = OpensToFrom octets member swapped before a
    b ⊎ OpensToFrom octets member swapped (before ++ more) a b

-- the pair opens to facts of the same force
abbrev pub OpensToForce : {C : Type 0} → (C → List ℕ) → Member → List (Fact C) → List ℕ → List ℕ
    → Type 0
OpensToForce {C} octets member facts a b =
    (read : List (Fact C)) × OpensTo octets member read a b × SameForce read facts

-- one of the two devices failed since
abbrev pub EitherFailed : State → State → State → State → Type 0
EitherFailed old_a old_b new_a new_b = DeviceFailed old_a new_a ⊎ DeviceFailed old_b new_b
