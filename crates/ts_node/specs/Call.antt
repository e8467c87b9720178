-- A call of a node with an input: what `Node::handle` promises, in one record.
use Rattle.std.proofs.Common.{◌≡◌, ◌+◌, ◌^◌, ℕ, List, true, false, Result}
use Rattle.std.specs.Prelude.{OnOk, IsErrOf}
use Rattle.ts_disk.specs.Disk.{State}
use Rattle.ts_journal.specs.Images.{EveryPair}
use Rattle.ts_synod.specs.declared.message.Fact.{Fact}
use Rattle.ts_synod.specs.declared.message.Message.{Message}
use Rattle.ts_synod.specs.Force.{SameForce}
use Rattle.ts_synod.specs.Laws.{node_with}
use Rattle.ts_synod.specs.Node as world
use Rattle.ts_synod.specs.Store.{Store}
use Rattle.ts_record.specs.Record.{OpensToForce}
use Rattle.ts_node.specs.declared.node.Node.{Node}
use Rattle.ts_node.specs.declared.input.Input.{Input}
use Rattle.ts_node.specs.declared.input.Input.TheVariants as inputs
use Rattle.ts_node.specs.declared.input.Output.{Output}
use Rattle.ts_synod.specs.declared.fault.NodeFault.{NodeFault}
use Rattle.ts_synod.specs.declared.fault.NodeFault.TheVariants.{DiskFailed, Broken}
use Rattle.ts_synod.specs.declared.fault.NodeFault.TheVariants.{GenerationsExhausted}
use Rattle.ts_node.specs.Inputs.{IsInput}
use Rattle.ts_node.specs.Node.{Compacts, HasFailed, Handles, Moments, config, facts, is_broken}
use Rattle.ts_node.specs.Node.{owner, volatile}

-- What stands behind a node: its disks and the encoding of its commands, the store of the world,
-- and what its machine's answers rest on.
module _ {D C M O Q A B : Type 0} (state : D → State) (octets : C → List ℕ)
    (store : Store C O (List C) Q (List C)) (basis : M → B)
    (is_answer : B → List C → Q → A → Type 0) where
  -- the step of the world's node that has these facts and the volatile part of this node
  abbrev pub step_of : Node D C M → List (Fact C) → List (Message C) → world.Input C Q
      → world.Step C O Q (List C)
  step_of node kept sent event = world.step store (config node)
      (node_with kept (volatile node)) sent event

  -- One event of the world, which a crash at any moment leaves undone or done; or a step of a
  -- rewrite, which is none.
  pub record IsCall (old : Node D C M) (input : Input C Q)
      (result : Result (Output C O A) NodeFault) (new : Node D C M) : Type 0 where
    -- The call keeps, sends and answers what the step of the world's node does, whose facts are
    -- equivalent to this node's (`SameForce`).
    pub step : is_broken old ≡ false
        → (kept : List (Fact C)) (sent : List (Message C)) (event : world.Input C Q)
        → SameForce kept (facts old) → IsInput sent input event
        → Handles (is_answer (basis old.machine)) old result new (step_of old kept sent event)
    -- A crash at any moment within the call leaves the facts before it, or those after it.
    pub moments : is_broken old ≡ false
        → (kept : List (Fact C)) (sent : List (Message C)) (event : world.Input C Q)
        → SameForce kept (facts old) → IsInput sent input event
        → Moments state octets old (step_of old kept sent event).effect.facts new
    -- Compaction is no event of the world: the facts stay equivalent, also where a crash comes
    -- within it.
    pub compacts : is_broken old ≡ false → input ≡ inputs.Compact → Compacts old result new
        × EveryPair (OpensToForce octets (owner old) (facts old))
        (state old.kept.a) (state old.kept.b) (state new.kept.a) (state new.kept.b)
    -- At the last generation there is no next one to rewrite the record in.
    pub exhausted : is_broken old ≡ false → input ≡ inputs.Compact
        → old.kept.generation + 1 ≡ 2 ^ 64 → IsErrOf result GenerationsExhausted
    -- It stays the same node of the same group, and its answers rest on the same.
    pub same_config : config new ≡ config old
    pub same_basis : basis new.machine ≡ basis old.machine
    -- A node that answered is not broken.
    pub whole : OnOk result (is_broken new ≡ false)
    -- After a device failed the node is broken, and does nothing more.
    pub failed : IsErrOf result DiskFailed → (new.kept.broken ≡ true) × HasFailed state old new
    pub broken : is_broken old ≡ true → IsErrOf result Broken × (new ≡ old)
