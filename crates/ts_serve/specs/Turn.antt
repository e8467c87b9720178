-- A server: a node, and an outbox of its messages. What it does with one request: what the node
-- keeps is on disk then, or it waits to be kept with what others make.
use Rattle.std.specs.Prelude.{◌≡◌, ◌||◌, List, [], ◌∷◌, ◌++◌, map, take, length}
use Rattle.std.specs.Prelude.{Bool, true, false, Result}
use Rattle.ts_disk.specs.Disk.{State}
use Rattle.ts_synod.specs.Store.{Store}
use Rattle.ts_command.specs.declared.command.Command.{Command}
use Rattle.ts_command.specs.declared.outcome.Outcome.{Outcome}
use Rattle.ts_question.specs.Question.{StoreQuestion}
use Rattle.ts_question.specs.Reply.{NumberedReply}
use Rattle.ts_node.specs.declared.input.Input.{Input}
use Rattle.ts_node.specs.declared.input.Input.TheVariants as inputs
use Rattle.ts_node.specs.declared.input.Output.{Output}
use Rattle.ts_synod.specs.declared.fault.NodeFault.{NodeFault}
use Rattle.ts_node.specs.declared.node.Node.{Node}
use Rattle.ts_node.specs.declared.turn.StagedFacts.{StagedFacts}
use Rattle.ts_node.specs.Ahead.{IsAhead, IsKept, IsStage}
use Rattle.ts_node.specs.Call.{IsCall}
use Rattle.ts_node.specs.Node.{IsSound, is_broken}
use Rattle.ts_command.specs.Octets.{octets_of}
use Rattle.ts_synod.specs.declared.fault.NodeFault.TheVariants.{Memory}
use Rattle.ts_wire.specs.declared.frame.Frame.{Frame}
use Rattle.ts_wire.specs.declared.frame.Frame.TheVariants as frames
use Rattle.ts_serve.specs.declared.server.Server.{Server}
use Rattle.ts_serve.specs.Replies.{answer_to, is_failure, messages_of}

-- a text, or that memory was refused
abbrev pub IsReport : Frame → Type 0
IsReport (frames.Reported text) = Unit {0}
IsReport (frames.NodeFault fault) = fault ≡ Memory
IsReport other = ⊥

-- A server can take a request, so that what the node keeps is on disk; or, where it is staged, so
-- that it waits. Those that wait are these.
abbrev pub IsReady : {D M : Type 0} → (D → State) → (M → List Command) → Bool → Node D Command M
    → StagedFacts Command → Type 0
IsReady state commands false node waiting = IsSound state octets_of commands node
IsReady state commands true node waiting = IsAhead state octets_of commands node waiting

-- All that was answered may leave: nothing waits to be kept, and the node is not broken.
pub record IsSettled {D M : Type 0} (server : Server D M) : Type 0 where
  pub none : server.staged.facts.items ≡ []
  pub whole : is_broken server.node ≡ false

module _ {D M : Type 0} where
  -- the outbox's messages are given, and their count; the outbox is empty
  pub record GivesMessages (old : Server D M) (replies : List Frame) (new : Server D M) : Type 0
    where
      pub said : replies ≡ map frames.Peer old.outbox ++ frames.Done (length old.outbox) ∷ []
      pub outbox : new.outbox ≡ []
      pub node : new.node ≡ old.node
      pub staged : new.staged ≡ old.staged
      pub failed : new.failed ≡ old.failed

  -- which node of which group it is, as its record has it, is answered; nothing changes
  pub record Identifies (old : Server D M) (replies : List Frame) (new : Server D M) : Type 0 where
    pub said : replies ≡ frames.Identity old.node.kept.node old.node.kept.nodes
        old.node.kept.group ∷ []
    pub same : new ≡ old

  -- A report is answered; what it says is up to whoever runs the server. Nothing changes.
  pub record HasReported (old : Server D M) (replies : List Frame) (new : Server D M) : Type 0 where
    pub frame : Frame
    pub report : IsReport frame
    pub said : replies ≡ frame ∷ []
    pub same : new ≡ old

-- The disks of a node, the store of the world, and what its machine's answers rest on (`ts_node`).
module _ {D M B : Type 0} (state : D → State)
    (store : Store Command Outcome (List Command) StoreQuestion (List Command)) (basis : M → B)
    (is_answer : B → List Command → StoreQuestion → NumberedReply → Type 0) where
  -- The node takes the input; or, where it is staged, it takes it in memory, with the messages to
  -- itself that follow from it, and what it keeps waits.
  abbrev pub Hands : Bool → Node D Command M → StagedFacts Command → Input Command StoreQuestion
      → Result (Output Command Outcome NumberedReply) NodeFault → Node D Command M → StagedFacts
      Command
      → Type 0
  Hands false old waiting input result new after =
      IsCall state octets_of store basis is_answer old input result new × (after ≡ waiting)
  Hands true old waiting input result new after =
      IsStage octets_of store basis is_answer state waiting.facts.items old input result
      after.facts.items new

  -- The node takes the input. Its reply is the answer, and the messages that it gives go after
  -- those in the outbox, of which the first 256 stay. Whether the node broke is remembered.
  pub record HandlesInput (staged : Bool) (old : Server D M) (input : Input Command StoreQuestion)
      (replies : List Frame) (new : Server D M) : Type 0 where
    pub result : Result (Output Command Outcome NumberedReply) NodeFault
    pub call : Hands staged old.node old.staged input result new.node new.staged
    pub said : replies ≡ answer_to result ∷ []
    pub outbox : new.outbox ≡ take 256 (old.outbox ++ messages_of result)
    pub failed : new.failed ≡ (old.failed || is_failure result)

  -- What a server answers to each request, and the server then. Other frames are no requests.
  abbrev pub TurnBy : Bool → Server D M → Frame → List Frame → Server D M → Type 0
  TurnBy staged old (frames.Peer message) replies new =
      HandlesInput staged old (inputs.Deliver message) replies new
  TurnBy staged old (frames.Submit command) replies new =
      HandlesInput staged old (inputs.Submit command) replies new
  TurnBy staged old (frames.Question question) replies new =
      HandlesInput staged old (inputs.Ask question.terms.k question) replies new
  TurnBy staged old frames.Take replies new = GivesMessages old replies new
  TurnBy staged old (frames.Outcome id) replies new =
      HandlesInput staged old (inputs.Outcome id) replies new
  TurnBy staged old frames.CatchUp replies new = HandlesInput staged old inputs.CatchUp replies new
  TurnBy staged old frames.Status replies new = HandlesInput staged old inputs.Status replies new
  TurnBy staged old frames.Compact replies new = HandlesInput staged old inputs.Compact replies new
  TurnBy staged old frames.Identify replies new = Identifies old replies new
  TurnBy staged old frames.Report replies new = HasReported old replies new
  TurnBy staged old other replies new = ⊥

  -- what the node keeps is on disk then
  abbrev pub ServerTurn : Server D M → Frame → List Frame → Server D M → Type 0
  ServerTurn old frame replies new = TurnBy false old frame replies new

  -- what the node keeps waits
  abbrev pub StagedTurn : Server D M → Frame → List Frame → Server D M → Type 0
  StagedTurn old frame replies new = TurnBy true old frame replies new

-- What waited is kept, by one append; or the node is broken.
pub record HasKept {D M : Type 0} (state : D → State) (old : Server D M) (new : Server D M)
    : Type 0 where
  pub result : Result (Unit {0}) NodeFault
  pub call : IsKept state octets_of old.node old.staged.facts.items result
      new.staged.facts.items new.node
  pub failed : new.failed ≡ (old.failed || is_failure result)
  pub outbox : new.outbox ≡ old.outbox
