-- The learner's rules (Paxos Made Simple 2.3), and the log of learned commands (3). In each,
-- `learned` is the command learned at a position, and `received` the Accepted messages received
-- there.
use Rattle.std.proofs.Common.{ℕ, zero, suc, List, [], Option, Some, None, Bool, false, nat_lt}
use Rattle.std.proofs.Common.{nat_le, is_some, length, min, ◌∷◌, ◌-◌, ◌%◌, ◌==◌, if◌then◌else◌}
use Rattle.ts_synod.specs.declared.message.Body.TheVariants.{Ask, Give}
use Rattle.ts_synod.specs.declared.message.Fact.TheVariants.{Chosen}
use Rattle.ts_synod.specs.declared.message.Fact.{Fact}
use Rattle.ts_synod.specs.declared.message.Message.{Message}
use Rattle.ts_synod.specs.declared.message.Vote.{Vote}
use Rattle.ts_synod.specs.Lists.{update_at}
use Rattle.ts_synod.specs.Majority.{is_majority}
use Rattle.ts_synod.specs.Config.{Config}
use Rattle.ts_synod.specs.Messages.{broadcast_to_others, send}
use Rattle.ts_synod.specs.Force.{greater_vote}

-- the last position of a log
abbrev pub last_position : ℕ
last_position = 1000000

-- the commands learned at p, p + 1 and so on, up to the first gap, at most k of them
abbrev pub leading : {C : Type 0} → ℕ → ℕ → (ℕ → Option C) → List C
leading zero p learned = []
leading (suc k) p learned = elim (learned p) [ None ↦ [] | Some c ↦ c ∷ leading k (suc p) learned ]

-- the prefix: the commands learned from position 1 up to the first gap (3)
unfoldable pub prefix : {C : Type 0} → (ℕ → Option C) → List C
prefix learned = leading last_position 1 learned

-- the position after the prefix, or None where the log is full
abbrev pub next_position : {C : Type 0} → (ℕ → Option C) → Option ℕ
next_position learned = if nat_le last_position (length (prefix learned)) then None
    else Some (suc (length (prefix learned)))

-- the prefix has grown
abbrev pub has_grown : {C : Type 0} → (ℕ → Option C) → (ℕ → Option C) → Bool
has_grown before now = nat_lt (length (prefix before)) (length (prefix now))

-- by position and sender, the vote of the greatest ballot in an Accepted
abbrev pub ReceivedVotes : Type 0 → Type 0
ReceivedVotes C = ℕ → ℕ → Option (Vote C)

-- facts to keep, messages to send once they are kept, and what is learned and received then
pub record LogStep (C : Type 0) : Type 0 where
  pub facts : List (Fact C)
  pub messages : List (Message C)
  pub learned : ℕ → Option C
  pub received : ReceivedVotes C

-- no position is learned, and the received votes are these
abbrev pub keep_received : {C : Type 0} → (ℕ → Option C) → ReceivedVotes C → LogStep C
keep_received learned received = record
    { facts = []; messages = []; learned = learned; received = received }

-- c is learned at p and kept as chosen, and the votes received there are forgotten (2.3)
abbrev pub learn : {C : Type 0} → (ℕ → Option C) → ReceivedVotes C → ℕ → C → List (Message C)
    → LogStep C
learn learned received p c messages = record {
  facts = Chosen p c ∷ [];
  messages = messages;
  learned = update_at learned p (Some c);
  received = update_at received p (λ a. None);
}

-- the vote is of ballot b
abbrev pub is_vote_in : {C : Type 0} → ℕ → Option (Vote C) → Bool
is_vote_in b None = false
is_vote_in b (Some v) = v.ballot == b

-- where the votes of a majority are of ballot b, its command is chosen, and learned (2.3)
abbrev pub count_votes : {C : Type 0} → Config → (ℕ → Option C) → ReceivedVotes C → ℕ → ℕ → C
    → (ℕ → Option (Vote C)) → LogStep C
count_votes config learned received p b c votes =
    if is_majority config.nodes (λ a. is_vote_in b (votes a))
    then learn learned received p c []
    else keep_received learned (update_at received p votes)

-- the votes received at a position, with one more: of each sender the one of the greatest ballot
abbrev pub with_vote : {C : Type 0} → (ℕ → Option (Vote C)) → ℕ → Vote C → ℕ → Option (Vote C)
with_vote votes from vote = update_at votes from (greater_vote (votes from) (Some vote))

-- Accepted of ballot b and command c at p: it counts where p is not learned yet (2.3)
abbrev pub on_accepted : {C : Type 0} → Config → (ℕ → Option C) → ReceivedVotes C → ℕ → ℕ → ℕ → C
    → LogStep C
on_accepted config learned received from p b c =
    if is_some (learned p)
    then keep_received learned received
    else count_votes config learned received p b c
    (with_vote (received p) from (record { ballot = b; command = c }))

-- Ask a node for the next position, where there is one
abbrev pub ask_next : {C : Type 0} → Config → ℕ → Option ℕ → List (Message C)
ask_next config node None = []
ask_next config node (Some p) = send config.me node (Ask p) ∷ []

-- where the prefix has grown, ask the giver for the next position
abbrev pub ask_back : {C : Type 0} → Config → (ℕ → Option C) → (ℕ → Option C) → ℕ → List (Message C)
ask_back config before now node =
    if has_grown before now then ask_next config node (next_position now) else []

-- Give of command c at p, which its sender has learned: it is learned here too (2.3: a learner can
-- ask another)
abbrev pub on_give : {C : Type 0} → Config → (ℕ → Option C) → ReceivedVotes C → ℕ → ℕ → C
    → LogStep C
on_give config learned received from p c =
    if is_some (learned p)
    then keep_received learned received
    else learn learned received p c (ask_back config learned (update_at learned p (Some c)) from)

-- how many positions an Ask for p asks for, from p on: where p is a multiple of 32 a block of 32,
-- up to the last position, and elsewhere p alone
abbrev pub ask_length : ℕ → ℕ
ask_length p = if p % 32 == 0 then min 32 (suc last_position - p) else 1

-- a Give of each of the commands, which are learned at p, p + 1 and so on
abbrev pub gives : {C : Type 0} → Config → ℕ → ℕ → List C → List (Message C)
gives config from p [] = []
gives config from p (c ∷ cs) = send config.me from (Give p c) ∷ gives config from (suc p) cs

-- Ask for position p: the commands of its block are given, up to the first that is not learned
abbrev pub on_ask : {C : Type 0} → Config → (ℕ → Option C) → ℕ → ℕ → List (Message C)
on_ask config learned from p = gives config from p (leading (ask_length p) p learned)

-- Ask all other nodes for a position, where there is one
abbrev pub ask_others : {C : Type 0} → Config → Option ℕ → List (Message C)
ask_others config None = []
ask_others config (Some p) = broadcast_to_others config.me config.nodes (Ask p)

-- catch up with the other nodes: ask them for the position after the prefix (3)
abbrev pub catch_up : {C : Type 0} → Config → (ℕ → Option C) → List (Message C)
catch_up config learned = ask_others config (next_position learned)
