-- What reaches a node and what it answers, as the world's inputs and replies.
use Rattle.std.proofs.Common.{◌≡◌, ◌≤◌, ℕ, List, Some, Result, Ok, Err, length, slice_get}
use Rattle.ts_synod.specs.declared.message.Message.{Message}
use Rattle.ts_synod.specs.declared.message.Body.{Body}
use Rattle.ts_synod.specs.declared.message.Body.TheVariants.{Accept, Accepted, Ask, Busy, Give}
use Rattle.ts_synod.specs.declared.message.Body.TheVariants.{Prepare, Promise}
use Rattle.ts_synod.specs.Node as world
use Rattle.ts_record.specs.Facts.{IsBallot, IsPosition}
use Rattle.ts_node.specs.declared.input.Input.{Input}
use Rattle.ts_node.specs.declared.input.Input.TheVariants as inputs
use Rattle.ts_node.specs.declared.input.Reply.{Reply}
use Rattle.ts_synod.specs.declared.fault.NodeFault.{NodeFault}
use Rattle.ts_synod.specs.declared.fault.NodeFault.TheVariants as faults
use Rattle.ts_node.specs.declared.plan.Plan.{Plan}
use Rattle.ts_node.specs.declared.roles.Roles.{Roles}
use Rattle.ts_node.specs.inside.Roles.{Makes}
use Rattle.ts_node.specs.declared.input.Reply.TheVariants as replies

-- the event's input is this one, where a delivered message is the one of its number among all sent.
-- Compaction is no event of the world.
abbrev pub IsInput : {C Q : Type 0} → List (Message C) → Input C Q → world.Input C Q → Type 0
IsInput sent (inputs.Deliver m) (world.Deliver which) = slice_get sent which ≡ Some m
IsInput sent (inputs.Submit c) (world.Submit d) = c ≡ d
IsInput sent (inputs.Ask k q) (world.Question at' question) = (k ≡ at') × (q ≡ question)
IsInput sent (inputs.Outcome id) (world.Outcome client_id) = id ≡ client_id
IsInput sent inputs.CatchUp world.CatchUp = Unit {0}
IsInput sent inputs.Status world.Status = Unit {0}
IsInput sent input other = ⊥

-- The reply says what the world's does. An answer is one to the question, after the commands that
-- the world's reply names.
abbrev pub SaysReply : {C O Q A : Type 0} → (List C → Q → A → Type 0) → Reply O A
    → world.Reply O Q (List C) → Type 0
SaysReply is_answer replies.Done world.Done = Unit {0}
SaysReply is_answer (replies.Started p b) (world.Started position ballot) =
    (p ≡ position) × (b ≡ ballot)
SaysReply is_answer (replies.Settled p o) (world.Settled id position outcome) =
    (p ≡ position) × (o ≡ outcome)
SaysReply is_answer replies.Unknown (world.Unknown id) = Unit {0}
SaysReply is_answer (replies.NotYet k m) (world.NotYet at' question prefix) = (k ≡ at')
    × (m ≡ prefix)
SaysReply is_answer (replies.Answered k a) (world.Answered at' question commands) =
    (k ≡ at') × is_answer commands question a
SaysReply is_answer (replies.Prefix m) (world.Prefix prefix) = m ≡ prefix
SaysReply is_answer reply other = ⊥

-- a command has an encoding, which leaves room for the other fields in a record's body
pub record IsShort (octets : List ℕ) : Type 0 where
  pub some : 1 ≤ length octets
  pub short : length octets ≤ 4194325

-- what a node may be sent: positions and ballots in their ranges, and commands that a record can
-- hold
abbrev pub BodyFits : {C : Type 0} → (C → List ℕ) → Body C → Type 0
BodyFits octets (Prepare p b) = IsPosition p × IsBallot b
BodyFits octets (Promise p b taken) = Unit {0}
BodyFits octets (Busy p b promised) = Unit {0}
BodyFits octets (Accept p b c) = IsPosition p × IsBallot b × IsShort (octets c)
BodyFits octets (Accepted p b c) = IsPosition p × IsShort (octets c)
BodyFits octets (Ask p) = Unit {0}
BodyFits octets (Give p c) = IsPosition p × IsShort (octets c)

abbrev pub InputFits : {C Q : Type 0} → (C → List ℕ) → Input C Q → Type 0
InputFits octets (inputs.Deliver m) = BodyFits octets m.body
InputFits octets (inputs.Submit c) = Unit {0}
InputFits octets (inputs.Ask k q) = Unit {0}
InputFits octets (inputs.Outcome id) = Unit {0}
InputFits octets inputs.CatchUp = Unit {0}
InputFits octets inputs.Status = Unit {0}
InputFits octets inputs.Compact = Unit {0}

-- A plan and a reply are those of the world's step. RoundsExhausted and PositionsExhausted are
-- answered exactly where the world's reply is that.
abbrev pub Submits : {C O Q A : Type 0} → (List C → Q → A → Type 0) → Roles C
    → Result (Plan C × Reply O A) NodeFault → world.Step C O Q (List C) → Type 0
Submits is_answer roles (Ok made) step =
    Makes roles made.0 step.effect × SaysReply is_answer made.1 step.reply
Submits is_answer roles (Err faults.RoundsExhausted) step = step.reply ≡ world.RoundsExhausted
Submits is_answer roles (Err faults.PositionsExhausted) step = step.reply ≡ world.PositionsExhausted
Submits is_answer roles (Err faults.Memory) step = Unit {0}
Submits is_answer roles (Err other) step = ⊥
