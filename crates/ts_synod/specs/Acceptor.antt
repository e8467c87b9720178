-- The acceptor's rules (Paxos Made Simple 2.2, 'Putting the actions of the proposer and acceptor
-- together'), at one position. In each, `promised` is the greatest ballot that the acceptor
-- promised or took there, and `taken` its vote of the greatest ballot.
use Rattle.std.proofs.Common.{ℕ, List, [], Option, Some, None, nat_lt, ◌∷◌, ◌==◌, if◌then◌else◌}
use Rattle.ts_synod.specs.declared.message.Body.TheVariants.{Accepted, Busy, Promise}
use Rattle.ts_synod.specs.declared.message.Fact.{Fact}
use Rattle.ts_synod.specs.declared.message.Message.{Message}
use Rattle.ts_synod.specs.declared.message.Fact.TheVariants.{Promised, Took}
use Rattle.ts_synod.specs.declared.message.Vote.{Vote}
use Rattle.ts_synod.specs.Config.{Config}
use Rattle.ts_synod.specs.Messages.{broadcast, send}

-- facts to keep on stable storage, and messages to send once they are kept (2.5)
pub record Output (C : Type 0) : Type 0 where
  pub facts : List (Fact C)
  pub messages : List (Message C)

-- nothing to keep
abbrev pub only_messages : {C : Type 0} → List (Message C) → Output C
only_messages messages = record { facts = []; messages = messages }

-- Prepare of ballot b at p (phase 1 b of 2.2). Above the promised ballot: keep the promise, and
-- answer with the vote taken. Below it: answer with the promised ballot (2.4). Equal to it: no
-- answer.
abbrev pub on_prepare : {C : Type 0} → Config → ℕ → Option (Vote C) → ℕ → ℕ → ℕ → Output C
on_prepare config promised taken from p b =
    if nat_lt promised b
    then record {
      facts = Promised p b ∷ [];
      messages = send config.me from (Promise p b taken) ∷ [];
    }
    else if nat_lt b promised
    then only_messages (send config.me from (Busy p b promised) ∷ [])
    else only_messages []

-- keep the vote, and send it to all learners (2.2, 2.3)
abbrev pub accept : {C : Type 0} → Config → ℕ → ℕ → C → Output C
accept config p b c = record {
  facts = Took p b c ∷ [];
  messages = broadcast config.me config.nodes (Accepted p b c);
}

-- a ballot that was taken already: send Accepted again with the command taken, and keep nothing
abbrev pub accept_or_repeat : {C : Type 0} → Config → ℕ → ℕ → C → Option (Vote C) → Output C
accept_or_repeat config p b c None = accept config p b c
accept_or_repeat config p b c (Some v) =
    if v.ballot == b
    then only_messages (broadcast config.me config.nodes (Accepted p b v.command))
    else accept config p b c

-- Accept of ballot b and command c at p (phase 2 b of 2.2). At or above the promised ballot: take
-- it. Below it: answer with the promised ballot (2.4).
abbrev pub on_accept : {C : Type 0} → Config → ℕ → Option (Vote C) → ℕ → ℕ → ℕ → C → Output C
on_accept config promised taken from p b c =
    if nat_lt b promised
    then only_messages (send config.me from (Busy p b promised) ∷ [])
    else accept_or_repeat config p b c taken
