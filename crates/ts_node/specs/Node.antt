-- A node on two disks: its facts, which its disks hold, and the world's node that it is.
use Rattle.std.proofs.Common.{◌≡◌, ◌⊎◌, ◌||◌, ◌++◌, ◌+◌, ◌^◌, ℕ, List, [], Bool, false, true}
use Rattle.std.proofs.Common.{Result, Ok, Err}
use Rattle.ts_disk.specs.Disk.{State}
use Rattle.ts_journal.specs.Images.{Member, AnyPair, EveryPair}
use Rattle.ts_synod.specs.declared.message.Fact.{Fact}
use Rattle.ts_synod.specs.Config.{Config}
use Rattle.ts_synod.specs.Force.{SameForce, log_of}
use Rattle.ts_synod.specs.Node as world
use Rattle.ts_record.specs.Facts.{OpensTo}
use Rattle.ts_record.specs.Record.{EitherFailed, OpensToFrom}
use Rattle.ts_node.specs.declared.node.Node.{Node}
use Rattle.ts_record.specs.declared.fault.RecordFault.{RecordFault}
use Rattle.ts_record.specs.declared.fault.RecordFault.TheVariants as record_faults
use Rattle.ts_synod.specs.declared.fault.NodeFault.{NodeFault}
use Rattle.ts_synod.specs.declared.fault.NodeFault.TheVariants as faults
use Rattle.ts_node.specs.declared.input.Output.{Output}
use Rattle.ts_node.specs.declared.input.Reply.TheVariants as replies
use Rattle.ts_record.specs.Kept.{course, member}
use Rattle.ts_record.specs.Rewrite.{Steps}
use Rattle.ts_record.specs.declared.progress.Progress.{Progress}
use Rattle.ts_node.specs.Inputs.{SaysReply}
use Rattle.ts_node.specs.Growing.{IsPart}
use Rattle.ts_node.specs.Roles.{StandFor, config_of, volatile_of}

-- which node of how many
abbrev pub config : {D C M : Type 0} → Node D C M → Config
config node = config_of node.roles

-- a node of this configuration, as a record's header has it
abbrev pub member_as : Config → Member
member_as k = record { node = k.me; nodes = k.nodes }

abbrev pub owner : {D C M : Type 0} → Node D C M → Member
owner node = member_as (config node)

-- what a restart forgets
abbrev pub volatile : {D C M : Type 0} → Node D C M → world.Volatile C
volatile node = volatile_of node.roles

-- the facts kept, in their order
abbrev pub facts : {D C M : Type 0} → Node D C M → List (Fact C)
facts node = node.kept.facts

-- Every pair of images that a crash now may leave opens to the facts, as the record of this node;
-- the roles are those of a node that has kept them; and the machine took the first of the learned
-- commands.
pub record IsWhole {D C M : Type 0} (state : D → State) (octets : C → List ℕ)
    (commands : M → List C) (node : Node D C M) : Type 0 where
  pub opens : AnyPair (OpensToFrom octets (member node.kept) node.kept.swapped node.kept.facts)
      (state node.kept.a) (state node.kept.b)
  pub whose : member node.kept ≡ owner node
  pub stand : StandFor node.roles node.kept.facts
  pub part : IsPart (commands node.machine) (log_of node.kept.facts)

-- One of its devices failed, or memory was refused to a turn when its roles were ahead of its
-- record. A broken node does nothing more until it is opened again.
abbrev pub is_broken : {D C M : Type 0} → Node D C M → Bool
is_broken node = node.kept.broken || node.ahead

-- a node is sound until it is broken
abbrev pub IsSound : {D C M : Type 0} → (D → State) → (C → List ℕ) → (M → List C) → Node D C M
    → Type 0
IsSound state octets commands node = is_broken node ≡ false → IsWhole state octets commands node

-- the pair opens to the facts before, or to those with the new ones, as the record of this member
abbrev pub ToEither : {C : Type 0} → (C → List ℕ) → Member → List (Fact C) → List (Fact C) → List ℕ
    → List ℕ → Type 0
ToEither octets whose before more a b =
    OpensTo octets whose before a b ⊎ OpensTo octets whose (before ++ more) a b

-- at every moment of a call each pair of images opens to the facts before it, or to those with the
-- new ones
abbrev pub Moments : {D C M : Type 0} → (D → State) → (C → List ℕ) → Node D C M → List (Fact C)
    → Node D C M → Type 0
Moments state octets old more new = EveryPair (ToEither octets (owner old) (facts old) more)
    (state old.kept.a) (state old.kept.b) (state new.kept.a) (state new.kept.b)

-- one of the two devices failed in a call
abbrev pub HasFailed : {D C M : Type 0} → (D → State) → Node D C M → Node D C M → Type 0
HasFailed state old new = EitherFailed (state old.kept.a) (state old.kept.b) (state new.kept.a)
    (state new.kept.b)

-- a record's fault, in a call of a node
abbrev pub fault_as : RecordFault → NodeFault
fault_as record_faults.Memory = faults.Memory
fault_as record_faults.DiskFailed = faults.DiskFailed
fault_as record_faults.Broken = faults.Broken
fault_as record_faults.GenerationsExhausted = faults.GenerationsExhausted
fault_as record_faults.NotFormatted = faults.Broken
fault_as record_faults.OldVersion = faults.Broken
fault_as (record_faults.Damaged at) = faults.Broken

-- nothing of the world's node is changed, nor of its record
pub record IsSame {D C M : Type 0} (old new : Node D C M) : Type 0 where
  pub kept : new.kept ≡ old.kept
  pub volatile : volatile new ≡ volatile old
  pub ahead : new.ahead ≡ old.ahead

-- What a call does is the world's step: the facts that it keeps, the volatile part then, the
-- messages and the reply.
pub record Does {D C M O Q A : Type 0} (is_answer : List C → Q → A → Type 0) (old : Node D C M)
    (output : Output C O A) (new : Node D C M) (step : world.Step C O Q (List C)) : Type 0 where
  pub facts : facts new ≡ facts old ++ step.effect.facts
  pub volatile : volatile new ≡ step.effect.volatile
  pub messages : output.messages.items ≡ step.effect.messages
  pub reply : SaysReply is_answer output.reply step.reply

-- A call answers what the world does, or a fault. RoundsExhausted and PositionsExhausted are
-- answered exactly where the world's reply is that, and a fault other than that of a device changes
-- nothing.
abbrev pub Handles : {D C M O Q A : Type 0} → (List C → Q → A → Type 0) → Node D C M
    → Result (Output C O A) NodeFault → Node D C M → world.Step C O Q (List C) → Type 0
Handles is_answer old (Ok output) new step = Does is_answer old output new step
Handles is_answer old (Err faults.RoundsExhausted) new step =
    (step.reply ≡ world.RoundsExhausted) × IsSame old new
Handles is_answer old (Err faults.PositionsExhausted) new step =
    (step.reply ≡ world.PositionsExhausted) × IsSame old new
Handles is_answer old (Err faults.Memory) new step = IsSame old new
Handles is_answer old (Err faults.DiskFailed) new step = new.kept.broken ≡ true
Handles is_answer old (Err faults.Broken) new step = ⊥
Handles is_answer old (Err faults.GenerationsExhausted) new step = ⊥

-- One step of a rewrite: the facts are of the same force, the volatile part is the same, nothing is
-- sent, and the reply is how far the rewrite is.
pub record Rewrites {D C M O A : Type 0} (old : Node D C M) (output : Output C O A)
    (new : Node D C M) : Type 0 where
  pub progress : Progress
  pub steps : Steps (course old.kept) progress (course new.kept)
  pub force : SameForce (facts new) (facts old)
  pub volatile : volatile new ≡ volatile old
  pub messages : output.messages.items ≡ []
  pub reply : output.reply ≡ replies.Compacted progress

abbrev pub Compacts : {D C M O A : Type 0} → Node D C M → Result (Output C O A) NodeFault
    → Node D C M → Type 0
Compacts old (Ok output) new = Rewrites old output new
Compacts old (Err faults.Memory) new = IsSame old new
Compacts old (Err faults.GenerationsExhausted) new =
    (old.kept.generation + 1 ≡ 2 ^ 64) × IsSame old new
Compacts old (Err faults.DiskFailed) new = new.kept.broken ≡ true
Compacts old (Err faults.Broken) new = ⊥
Compacts old (Err faults.RoundsExhausted) new = ⊥
Compacts old (Err faults.PositionsExhausted) new = ⊥
