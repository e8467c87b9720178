-- The force of a node's facts, which is all that a step reads of its stable storage (Paxos Made
-- Simple 2.5): the greatest round that it used, and for each position the greatest ballot that it
-- promised or took, the vote of the greatest ballot, and the command that it learned.
use Rattle.std.proofs.Common.{ℕ, max, List, [], Option, Some, None, nat_lt, ◌≡◌, ◌∷◌, ◌==◌}
use Rattle.std.proofs.Common.{if◌then◌else◌}
use Rattle.ts_synod.specs.declared.message.Fact.TheVariants.{Chosen, Promised, Took, Used}
use Rattle.ts_synod.specs.declared.message.Fact.{Fact}
use Rattle.ts_synod.specs.declared.message.Vote.{Vote}

-- the round that a fact uses, and 0 for other facts
abbrev pub round_used_by : {C : Type 0} → Fact C → ℕ
round_used_by (Used r) = r
round_used_by (Promised p b) = 0
round_used_by (Took p b c) = 0
round_used_by (Chosen p c) = 0

-- the greatest round used: 'the highest-numbered proposal it has tried to initiate' (2.5)
abbrev pub used_round : {C : Type 0} → List (Fact C) → ℕ
used_round [] = 0
used_round (f ∷ fs) = max (round_used_by f) (used_round fs)

-- the ballot that a fact promises or takes at p
abbrev pub ballot_at : {C : Type 0} → ℕ → Fact C → ℕ
ballot_at p (Used r) = 0
ballot_at p (Promised q b) = if q == p then b else 0
ballot_at p (Took q b c) = if q == p then b else 0
ballot_at p (Chosen q c) = 0

-- the greatest ballot promised or taken at p: the acceptor answers nothing below it (2.2)
abbrev pub promised_ballot : {C : Type 0} → ℕ → List (Fact C) → ℕ
promised_ballot p [] = 0
promised_ballot p (f ∷ fs) = max (ballot_at p f) (promised_ballot p fs)

-- of two votes the one of the greater ballot, and the first where they are equal
abbrev pub greater_vote : {C : Type 0} → Option (Vote C) → Option (Vote C) → Option (Vote C)
greater_vote None w = w
greater_vote (Some v) None = Some v
greater_vote (Some v) (Some w) = if nat_lt v.ballot w.ballot then Some w else Some v

-- the vote that a fact takes at p
abbrev pub vote_at : {C : Type 0} → ℕ → Fact C → Option (Vote C)
vote_at p (Used r) = None
vote_at p (Promised q b) = None
vote_at p (Took q b c) = if q == p then Some (record { ballot = b; command = c }) else None
vote_at p (Chosen q c) = None

-- the vote of the greatest ballot at p: 'the highest-numbered proposal (if any) that it has
-- accepted' (2.2)
abbrev pub taken_vote : {C : Type 0} → ℕ → List (Fact C) → Option (Vote C)
taken_vote p [] = None
taken_vote p (f ∷ fs) = greater_vote (vote_at p f) (taken_vote p fs)

-- the first of two that is there
abbrev pub first_some : {A : Type 0} → Option A → Option A → Option A
first_some None y = y
first_some (Some x) y = Some x

-- the command that a fact learns at p
abbrev pub command_at : {C : Type 0} → ℕ → Fact C → Option C
command_at p (Used r) = None
command_at p (Promised q b) = None
command_at p (Took q b c) = None
command_at p (Chosen q c) = if q == p then Some c else None

-- the command learned at p (2.3)
abbrev pub learned_command : {C : Type 0} → ℕ → List (Fact C) → Option C
learned_command p [] = None
learned_command p (f ∷ fs) = first_some (command_at p f) (learned_command p fs)

-- the log: the learned commands by position (3)
abbrev pub log_of : {C : Type 0} → List (Fact C) → ℕ → Option C
log_of fs p = learned_command p fs

-- two lists of facts have one force
pub record SameForce {C : Type 0} (fs gs : List (Fact C)) : Type 0 where
  pub used : used_round fs ≡ used_round gs
  pub promised : (p : ℕ) → promised_ballot p fs ≡ promised_ballot p gs
  pub taken : (p : ℕ) → taken_vote p fs ≡ taken_vote p gs
  pub learned : (p : ℕ) → learned_command p fs ≡ learned_command p gs
