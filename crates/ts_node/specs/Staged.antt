-- What a turn has made so far: its facts and messages, and the roles as they are then.
use Rattle.std.proofs.Common.{◌≡◌, ◌≤◌, ◌+◌, ◌++◌, ℕ, List, length, Result, Ok}
use Rattle.std.proofs.Common.{Err, true}
use Rattle.ts_disk.specs.Disk.{State}
use Rattle.ts_journal.specs.Images.{AnyPair}
use Rattle.ts_synod.specs.declared.message.Fact.{Fact}
use Rattle.ts_synod.specs.Force.{log_of}
use Rattle.ts_synod.specs.Node as world
use Rattle.ts_record.specs.Facts.{AllFit, encodings}
use Rattle.ts_record.specs.Kept.{member}
use Rattle.ts_record.specs.Record.{OpensToFrom}
use Rattle.ts_synod.specs.declared.fault.NodeFault.{NodeFault}
use Rattle.ts_synod.specs.declared.fault.NodeFault.TheVariants as faults
use Rattle.ts_node.specs.declared.node.Node.{Node}
use Rattle.ts_node.specs.declared.turn.StagedFacts.{StagedFacts}
use Rattle.ts_node.specs.Growing.{IsPart}
use Rattle.ts_node.specs.Node.{HasFailed, facts, owner, volatile}
use Rattle.ts_node.specs.Roles.{StandFor}

-- the facts of turns that are to be kept at once, and so long are their encodings
pub record AreReady {C : Type 0} (octets : C → List ℕ) (staged : StagedFacts C) : Type 0 where
  pub fit : AllFit octets staged.facts.items
  pub size : staged.size ≡ length (encodings octets staged.facts.items)
  pub short : staged.size ≤ 4194500

-- the node's record, and roles that are ahead of it by these facts
pub record IsStaged {D C M : Type 0} (state : D → State) (octets : C → List ℕ)
    (commands : M → List C) (node : Node D C M) (staged : List (Fact C)) : Type 0 where
  pub opens : AnyPair (OpensToFrom octets (member node.kept) node.kept.swapped node.kept.facts)
      (state node.kept.a) (state node.kept.b)
  pub whose : member node.kept ≡ owner node
  pub stand : StandFor node.roles (node.kept.facts ++ staged)
  pub part : IsPart (commands node.machine) (log_of (node.kept.facts ++ staged))

-- these facts are kept at once, and the volatile part is this; or the node is broken, since memory
-- was refused or a device failed
abbrev pub Keeps : {D C M T : Type 0} → (D → State) → Node D C M → List (Fact C)
    → world.Volatile C → Result T NodeFault → Node D C M → Type 0
Keeps state old more then' (Ok x) new =
    (facts new ≡ facts old ++ more) × (volatile new ≡ then')
Keeps state old more then' (Err faults.Broken) new = (new.ahead ≡ true) × (new.kept ≡ old.kept)
Keeps state old more then' (Err faults.DiskFailed) new =
    (new.kept.broken ≡ true) × HasFailed state old new
Keeps state old more then' (Err faults.Memory) new = ⊥
Keeps state old more then' (Err faults.RoundsExhausted) new = ⊥
Keeps state old more then' (Err faults.PositionsExhausted) new = ⊥
Keeps state old more then' (Err faults.GenerationsExhausted) new = ⊥
