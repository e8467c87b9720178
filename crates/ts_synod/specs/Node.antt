-- A node, which is proposer, acceptor and learner at once (Paxos Made Simple 2.5): what an input
-- makes it keep, send and answer, and its state then.
use Rattle.std.proofs.Common.{ℕ, suc, List, [], Option, Some, None, Bool, nat_le, is_some}
use Rattle.std.proofs.Common.{slice_get, length, take, ◌++◌, ◌==◌, ◌&&◌, if◌then◌else◌}
use Rattle.ts_synod.specs.declared.message.Body.TheVariants.{Accept, Accepted, Ask, Busy, Give}
use Rattle.ts_synod.specs.declared.message.Body.TheVariants.{Prepare, Promise}
use Rattle.ts_synod.specs.declared.message.Body.{Body}
use Rattle.ts_synod.specs.declared.message.Fact.{Fact}
use Rattle.ts_synod.specs.declared.message.Message.{Message}
use Rattle.ts_synod.specs.Ballot.{ballot}
use Rattle.ts_synod.specs.Config.{Config, is_node}
use Rattle.ts_synod.specs.Force.{log_of, promised_ballot, taken_vote, used_round}
use Rattle.ts_synod.specs.Store.{Settling, Store, settling, tables}
use Rattle.ts_synod.specs.Acceptor.{Output, on_accept, on_prepare, only_messages}
use Rattle.ts_synod.specs.Proposer.{ProposerState, ProposerStep, greatest_round, idle, on_busy}
use Rattle.ts_synod.specs.Proposer.{on_growth, on_promise, propose}
use Rattle.ts_synod.specs.Log.{LogStep, ReceivedVotes, catch_up, has_grown, next_position}
use Rattle.ts_synod.specs.Log.{on_accepted}
use Rattle.ts_synod.specs.Log.{on_ask, on_give, prefix}

-- what reaches a node: the message of this number among all sent, or a request of a client
pub data Input (C Q : Type 0) : Type 0 where
  Deliver : (which : ℕ) → Input C Q
  Submit : (command : C) → Input C Q
  Question : (at' : Option ℕ) → (question : Q)
      → Input C Q  -- over the first k commands, or over the whole prefix
  Outcome : (id : List ℕ) → Input C Q
  CatchUp : Input C Q
  Status : Input C Q

-- the reply to an input
pub data Reply (O Q V : Type 0) : Type 0 where
  Done : Reply O Q V
  Started : (position : ℕ) → (ballot : ℕ) → Reply O Q V
  Settled : (id : List ℕ) → (position : ℕ) → (outcome : O) → Reply O Q V
  Unknown : (id : List ℕ) → Reply O Q V
  NotYet : (k : ℕ) → (question : Q) → (prefix : ℕ) → Reply O Q V
  Answered : (k : ℕ) → (question : Q) → (verdict : V) → Reply O Q V
  Prefix : (prefix : ℕ) → Reply O Q V
  RoundsExhausted : Reply O Q V
  PositionsExhausted : Reply O Q V

-- what a restart forgets: the proposer's state, and the votes received (2.5: only what is on stable
-- storage survives a failure)
pub record Volatile (C : Type 0) : Type 0 where
  pub proposer : ProposerState C
  pub received : ReceivedVotes C

-- the volatile part after a restart
abbrev pub initial : {C : Type 0} → Volatile C
initial = record { proposer = idle; received = λ p a. None }

-- a node: its facts in the order in which they were kept, and its volatile part
pub record Node (C : Type 0) : Type 0 where
  pub facts : List (Fact C)
  pub volatile : Volatile C

-- facts to keep, messages to send once they are kept, and the volatile part then
pub record Effect (C : Type 0) : Type 0 where
  pub facts : List (Fact C)
  pub messages : List (Message C)
  pub volatile : Volatile C

-- what an input does, and the reply to it
pub record Step (C O Q V : Type 0) : Type 0 where
  pub effect : Effect C
  pub reply : Reply O Q V

-- nothing is kept, sent or changed
abbrev pub no_effect : {C : Type 0} → Volatile C → Effect C
no_effect volatile = record { facts = []; messages = []; volatile = volatile }

-- what the acceptor or the log keeps and sends with no volatile change
abbrev pub output_effect : {C : Type 0} → Volatile C → Output C → Effect C
output_effect volatile out = record
    { facts = out.facts; messages = out.messages; volatile = volatile }

-- what the proposer's step does
abbrev pub proposer_effect : {C : Type 0} → Volatile C → ProposerStep C → Effect C
proposer_effect volatile move = record {
  facts = move.facts;
  messages = move.messages;
  volatile = record { proposer = move.state; received = volatile.received };
}

-- what the log's step does, and if the prefix has grown the proposer's step after it
abbrev pub log_effect : {C : Type 0} → Volatile C → Bool → LogStep C → ProposerStep C → Effect C
log_effect volatile grown log growth =
    record {
      facts = if grown then log.facts ++ growth.facts else log.facts;
      messages = if grown then log.messages ++ growth.messages else log.messages;
      volatile = record {
        proposer = if grown then growth.state
            else volatile.proposer;
        received = log.received;
      };
    }

-- a reply, and nothing else
abbrev pub reply_only : {C O Q V : Type 0} → Volatile C → Reply O Q V → Step C O Q V
reply_only volatile reply = record { effect = no_effect volatile; reply = reply }

-- an effect with a reply
abbrev pub with_reply : {C O Q V : Type 0} → Effect C → Reply O Q V → Step C O Q V
with_reply effect reply = record { effect = effect; reply = reply }

module _ {C O T Q V : Type 0} (store : Store C O T Q V) where
  -- the answer over the first k commands of the prefix, or NotYet where it is shorter (3)
  abbrev pub answer_at : List C → ℕ → Q → Reply O Q V
  answer_at cs k q = if nat_le k (length cs)
      then Answered k q (store.answer (tables store (take k cs)) q) else NotYet k q (length cs)

  -- the answer to a question: at k, or where it names no k over the whole prefix
  abbrev pub on_question : List C → Option ℕ → Q → Reply O Q V
  on_question cs None q = answer_at cs (length cs) q
  on_question cs (Some k) q = answer_at cs k q

  -- the reply that gives the position and outcome of an id
  abbrev pub outcome_reply : List ℕ → Option (Settling O) → Reply O Q V
  outcome_reply id None = Unknown id
  outcome_reply id (Some s) = Settled id s.position s.outcome

module _ {C O T Q V : Type 0} (store : Store C O T Q V) (config : Config) where
  -- where c can be proposed: after the prefix, unless its id is in it
  abbrev pub position_for : (ℕ → Option C) → C → Option ℕ
  position_for learned c = if is_some (settling store (prefix learned) (store.id_of c)) then None
      else next_position learned

  -- where the wanted command can be proposed
  abbrev pub position_for_wanted : (ℕ → Option C) → Option C → Option ℕ
  position_for_wanted learned None = None
  position_for_wanted learned (Some c) = position_for learned c

  -- the log's step, followed by the proposer's if the prefix has grown (3)
  abbrev pub log_then_proposer : List (Fact C) → Volatile C → LogStep C → Effect C
  log_then_proposer facts volatile log = log_effect volatile
      (has_grown (log_of facts) log.learned) log
      (on_growth config (used_round facts) volatile.proposer
      (position_for_wanted log.learned volatile.proposer.wanted))

  -- each kind of message goes to its role
  abbrev pub on_body : List (Fact C) → Volatile C → ℕ → Body C → Effect C
  on_body facts volatile from (Prepare p b) = output_effect volatile
      (on_prepare config (promised_ballot p facts) (taken_vote p facts) from p b)
  on_body facts volatile from (Accept p b c) = output_effect volatile
      (on_accept config (promised_ballot p facts) (taken_vote p facts) from p b c)
  on_body facts volatile from (Promise p b taken) =
      proposer_effect volatile (on_promise config volatile.proposer from p b taken)
  on_body facts volatile from (Busy p b promised) =
      proposer_effect volatile (on_busy config volatile.proposer p b promised)
  on_body facts volatile from (Accepted p b c) = log_then_proposer facts volatile
      (on_accepted config (log_of facts) volatile.received from p b c)
  on_body facts volatile from (Give p c) =
      log_then_proposer facts volatile (on_give config (log_of facts) volatile.received from p c)
  on_body facts volatile from (Ask p) =
      output_effect volatile (only_messages (on_ask config (log_of facts) from p))

  -- a message for another node, or from a number that is no node, does nothing
  abbrev pub on_message : List (Fact C) → Volatile C → Message C → Effect C
  on_message facts volatile m =
      if (m.to == config.me) && is_node config.nodes m.from
      then on_body facts volatile m.from m.body
      else no_effect volatile

  -- the delivery of a message, if there is one of that number
  abbrev pub on_delivery : Node C → Option (Message C) → Effect C
  on_delivery node None = no_effect node.volatile
  on_delivery node (Some m) = on_message node.facts node.volatile m

  -- the proposer's step with its reply: Started, or RoundsExhausted where there is no step
  abbrev pub start_reply : Volatile C → ℕ → ℕ → Option (ProposerStep C) → Step C O Q V
  start_reply volatile p b None = reply_only volatile RoundsExhausted
  start_reply volatile p b (Some move) = with_reply (proposer_effect volatile move) (Started p b)

  -- Submit of a command that can be proposed at a position, or PositionsExhausted where none is
  -- left
  abbrev pub submit_at : Node C → C → Option ℕ → Step C O Q V
  submit_at node c None = reply_only node.volatile PositionsExhausted
  submit_at node c (Some p) =
      let used = used_round node.facts in
      start_reply node.volatile p (ballot config.me
      (suc (greatest_round used node.volatile.proposer)))
      (propose config used node.volatile.proposer p c)

  -- Submit of a command whose id may be in the prefix
  abbrev pub submit_unless_settled : Node C → C → Option (Settling O) → Step C O Q V
  submit_unless_settled node c (Some s) =
      reply_only node.volatile (Settled (store.id_of c) s.position s.outcome)
  submit_unless_settled node c None = submit_at node c (next_position (log_of node.facts))

  -- Submit: the position and outcome of an id that is in the prefix, and otherwise a round for the
  -- command (3)
  abbrev pub on_submit : Node C → C → Step C O Q V
  on_submit node c = submit_unless_settled node c
      (settling store (prefix (log_of node.facts)) (store.id_of c))

  -- the step of a node at an input, where `sent` is all messages sent
  abbrev pub step : Node C → List (Message C) → Input C Q → Step C O Q V
  step node sent (Deliver which) = with_reply (on_delivery node (slice_get sent which)) Done
  step node sent (Submit c) = on_submit node c
  step node sent (Question k q) =
      reply_only node.volatile (on_question store (prefix (log_of node.facts)) k q)
  step node sent (Outcome id) = reply_only node.volatile
      (outcome_reply store id (settling store (prefix (log_of node.facts)) id))
  step node sent CatchUp = with_reply
      (output_effect node.volatile (only_messages (catch_up config (log_of node.facts)))) Done
  step node sent Status = reply_only node.volatile (Prefix (length (prefix (log_of node.facts))))
