-- A turn of a node: an input, and the messages of the node to itself that follow from it, whose
-- facts are kept together.
use Rattle.std.proofs.Common.{◌≡◌, ◌≤◌, ◌⊎◌, ◌++◌, ◌+◌, ◌^◌, ◌==◌, ℕ, suc, List, [], ◌∷◌, true}
use Rattle.std.proofs.Common.{false, not, map, length, take, drop, Bool, Result, Ok, Err}
use Rattle.std.proofs.Common.{if◌then◌else◌, IfOk}
use Rattle.std.specs.Prelude.{OnOk, IsErrOf}
use Rattle.std.specs.List.{filter, list_any}
use Rattle.ts_disk.specs.Disk.{State}
use Rattle.ts_journal.specs.Images.{EveryPair}
use Rattle.ts_synod.specs.declared.message.Fact.{Fact}
use Rattle.ts_synod.specs.declared.message.Message.{Message}
use Rattle.ts_synod.specs.Config.{Config}
use Rattle.ts_synod.specs.Force.{SameForce}
use Rattle.ts_synod.specs.Laws.{node_with}
use Rattle.ts_synod.specs.Node as world
use Rattle.ts_synod.specs.Node.{step}
use Rattle.ts_synod.specs.Store.{Store}
use Rattle.ts_synod.specs.Turn.{Turn, turn}
use Rattle.ts_record.specs.Facts.{AllFit, encodings}
use Rattle.ts_record.specs.Record.{OpensToForce}
use Rattle.ts_node.specs.declared.node.Node.{Node}
use Rattle.ts_node.specs.declared.input.Input.{Input}
use Rattle.ts_node.specs.declared.input.Input.TheVariants as inputs
use Rattle.ts_node.specs.declared.input.Output.{Output}
use Rattle.ts_node.specs.declared.input.Reply.{Reply}
use Rattle.ts_synod.specs.declared.fault.NodeFault.{NodeFault}
use Rattle.ts_synod.specs.declared.fault.NodeFault.TheVariants as faults
use Rattle.ts_node.specs.Inputs.{IsInput, SaysReply}
use Rattle.ts_node.specs.Node.{Compacts, HasFailed, Handles, IsSame, Moments, config, facts}
use Rattle.ts_node.specs.Node.{is_broken, owner, volatile}

-- the numbers of the messages to node `me`, where the first of all has this number
abbrev pub own_numbers : {C : Type 0} → ℕ → ℕ → List (Message C) → List ℕ
own_numbers me first [] = []
own_numbers me first (m ∷ ms) = if m.to == me then first ∷ own_numbers me (suc first) ms
    else own_numbers me (suc first) ms

-- The inputs of a turn: the one that was given, and each message to the node itself among the first
-- that the turn sends, so many as it looked at, in their order. `sent` is what was sent before.
abbrev pub inputs_of : {C Q : Type 0} → ℕ → List (Message C) → world.Input C Q → ℕ
    → List (Message C) → List (world.Input C Q)
inputs_of me sent event looked messages =
    event ∷ map world.Deliver (own_numbers me (length sent) (take looked messages))

-- what a turn gives out: its messages, but for those to the node itself that it took
abbrev pub given_out : {C : Type 0} → ℕ → ℕ → List (Message C) → List (Message C)
given_out me looked messages =
    filter (λ m. not (m.to == me)) (take looked messages) ++ drop looked messages

-- one of the messages is to node `me`
abbrev pub has_own : {C : Type 0} → ℕ → List (Message C) → Bool
has_own me messages = list_any (λ m. m.to == me) messages

-- facts that a record can keep at once
abbrev pub FitTogether : {C : Type 0} → (C → List ℕ) → List (Fact C) → Type 0
FitTogether octets facts = AllFit octets facts × (length (encodings octets facts) ≤ 4194500)

-- a reply says the first of the world's
abbrev pub SaysFirst : {C O Q A : Type 0} → (List C → Q → A → Type 0) → Reply O A
    → List (world.Reply O Q (List C)) → Type 0
SaysFirst is_answer reply [] = ⊥
SaysFirst is_answer reply (r ∷ rs) = SaysReply is_answer reply r

abbrev pub IsFirst : {C O Q : Type 0} → world.Reply O Q (List C)
    → List (world.Reply O Q (List C)) → Type 0
IsFirst reply [] = ⊥
IsFirst reply (r ∷ rs) = r ≡ reply

-- A call does what a turn of the world's node does: the facts that it keeps, the volatile part
-- then, and the reply to the first input. These messages are those of the turn.
pub record DoesTurn {D C M O Q A : Type 0} (is_answer : List C → Q → A → Type 0) (old : Node D C M)
    (output : Output C O A) (made : List (Message C)) (new : Node D C M)
    (t : Turn C O Q (List C)) : Type 0 where
  pub facts : facts new ≡ facts old ++ t.effect.facts
  pub volatile : volatile new ≡ t.effect.volatile
  pub same : made ≡ t.effect.messages
  pub reply : SaysFirst is_answer output.reply t.replies

-- A turn is made, or a fault is answered: as `Handles` has them, and `Broken` where memory was
-- refused once the roles were ahead of the record.
abbrev pub HandlesTurn : {D C M O Q A : Type 0} → (List C → Q → A → Type 0) → Node D C M
    → Result (Output C O A) NodeFault → List (Message C) → Node D C M → Turn C O Q (List C) → Type 0
HandlesTurn is_answer old (Ok output) made new t = DoesTurn is_answer old output made new t
HandlesTurn is_answer old (Err faults.RoundsExhausted) made new t =
    IsFirst world.RoundsExhausted t.replies × IsSame old new
HandlesTurn is_answer old (Err faults.PositionsExhausted) made new t =
    IsFirst world.PositionsExhausted t.replies × IsSame old new
HandlesTurn is_answer old (Err faults.Memory) made new t = IsSame old new
HandlesTurn is_answer old (Err faults.DiskFailed) made new t = new.kept.broken ≡ true
HandlesTurn is_answer old (Err faults.Broken) made new t =
    (new.ahead ≡ true) × (new.kept ≡ old.kept)
HandlesTurn is_answer old (Err faults.GenerationsExhausted) made new t = ⊥

module _ {C O Q : Type 0} (octets : C → List ℕ) (store : Store C O (List C) Q (List C)) where
  -- the facts that the world's node would keep after a turn for the message of this number
  abbrev pub facts_next : Config → List (Fact C) → List (Message C) → ℕ → Turn C O Q (List C)
      → List (Fact C)
  facts_next config kept sent looked t = (step store config
      (node_with (kept ++ t.effect.facts) t.effect.volatile) (sent ++ t.effect.messages)
      (world.Deliver (length sent + looked))).effect.facts

  -- why a turn ends, behind facts that are kept together with its own: it has no message to the
  -- node itself left, or has looked at 64; or a record can't keep the facts of the next one
  -- together with all those before
  abbrev pub EndsBehind : List (Fact C) → Config → List (Fact C) → List (Message C) → ℕ
      → List (Message C) → Turn C O Q (List C) → Type 0
  EndsBehind before config kept sent looked made t = (has_own config.me (drop looked made) ≡ false)
      ⊎ (looked ≡ 64)
      ⊎ (FitTogether octets (before
      ++ (t.effect.facts ++ facts_next config kept sent looked t)) → ⊥)

  -- the same of a turn whose facts are kept alone
  abbrev pub Ends : Config → List (Fact C) → List (Message C) → ℕ → List (Message C)
      → Turn C O Q (List C) → Type 0
  Ends config kept sent looked made t = EndsBehind [] config kept sent looked made t

-- What stands behind a node: its disks and the encoding of its commands, the store of the world,
-- and what its machine's answers rest on.
module _ {D C M O Q A B : Type 0} (state : D → State) (octets : C → List ℕ)
    (store : Store C O (List C) Q (List C)) (basis : M → B)
    (is_answer : B → List C → Q → A → Type 0) where
  -- the turn of the world's node that has these facts and the volatile part of this node
  abbrev pub turn_at : Node D C M → List (Fact C) → List (Message C) → List (world.Input C Q)
      → Turn C O Q (List C)
  turn_at node kept sent inputs =
      turn store (config node) (node_with kept (volatile node)) sent inputs

  -- A turn of the world's node, at these facts and with these messages sent before: its messages
  -- are those that were made, and it takes, after the event, those to the node itself among the
  -- first so many.
  pub record IsTurnOf (old : Node D C M) (event : world.Input C Q)
      (result : Result (Output C O A) NodeFault) (new : Node D C M) (looked : ℕ)
      (made : List (Message C)) (kept : List (Fact C)) (sent : List (Message C)) : Type 0 where
    pub handles : HandlesTurn (is_answer (basis old.machine)) old result made new
        (turn_at old kept sent (inputs_of (config old).me sent event looked made))
    -- A crash at any moment within the call leaves the facts before it, or those and all of the
    -- turn's.
    pub moments : Moments state octets old
        (turn_at old kept sent (inputs_of (config old).me sent event looked made)).effect.facts new
    -- It goes on while there is a message to the node itself, up to its bounds.
    pub ends : OnOk result (Ends octets store (config old) kept sent looked made
        (turn_at old kept sent (inputs_of (config old).me sent event looked made)))
    pub few : looked ≤ 64
    -- Where the event makes no message to the node itself, the call does what `Node::handle` does.
    pub alone : let s = step store (config old) (node_with kept (volatile old)) sent event in
        has_own (config old).me s.effect.messages ≡ false
        → Handles (is_answer (basis old.machine)) old result new s

  -- Some events of the world, which a crash at any moment leaves undone or done, all of them; or a
  -- step of a rewrite, which is none.
  pub record IsTurn (old : Node D C M) (input : Input C Q)
      (result : Result (Output C O A) NodeFault) (new : Node D C M) : Type 0 where
    -- all messages that the call made, and how many of them it looked at
    pub made : List (Message C)
    pub looked : ℕ
    -- The call keeps, sends and answers what a turn of the world's node does, whose facts are
    -- equivalent to this node's (`SameForce`).
    pub turned : is_broken old ≡ false
        → (kept : List (Fact C)) (sent : List (Message C)) (event : world.Input C Q)
        → SameForce kept (facts old) → IsInput sent input event
        → IsTurnOf old event result new looked made kept sent
    -- A message to the node itself that it took is not given out.
    pub given : IfOk result (λ output. output.messages.items
        ≡ given_out (config old).me looked made)
    -- Compaction is no event of the world, as in `IsCall`.
    pub compacts : is_broken old ≡ false → input ≡ inputs.Compact → Compacts old result new
        × EveryPair (OpensToForce octets (owner old) (facts old))
        (state old.kept.a) (state old.kept.b) (state new.kept.a) (state new.kept.b)
    pub exhausted : is_broken old ≡ false → input ≡ inputs.Compact
        → old.kept.generation + 1 ≡ 2 ^ 64 → IsErrOf result faults.GenerationsExhausted
    pub same_config : config new ≡ config old
    pub same_basis : basis new.machine ≡ basis old.machine
    pub whole : OnOk result (is_broken new ≡ false)
    pub failed : IsErrOf result faults.DiskFailed
        → (new.kept.broken ≡ true) × HasFailed state old new
    pub broken : is_broken old ≡ true → IsErrOf result faults.Broken × (new ≡ old)
