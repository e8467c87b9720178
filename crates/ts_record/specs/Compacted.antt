-- The facts that a rewrite copies: those that make up the force of a list ('Paxos Made Simple'
-- 2.5), and no others.
use Rattle.std.specs.Prelude.{◌==◌, if◌then◌else◌, ℕ, zero, suc, max, List, [], ◌∷◌, ◌++◌, Option}
use Rattle.std.specs.Prelude.{Some, None}
use Rattle.ts_synod.specs.Force.{used_round, taken_vote, learned_command}
use Rattle.ts_synod.specs.declared.message.Fact.{Fact}
use Rattle.ts_synod.specs.declared.message.Fact.TheVariants.{Used, Promised, Took, Chosen}
use Rattle.ts_synod.specs.declared.message.Vote.{Vote}

-- the position that a fact is about; 0 for a round
abbrev pub position_of : {C : Type 0} → Fact C → ℕ
position_of (Used r) = 0
position_of (Promised p b) = p
position_of (Took p b c) = p
position_of (Chosen p c) = p

-- the last position that facts are about
abbrev pub last_fact_position : {C : Type 0} → List (Fact C) → ℕ
last_fact_position [] = 0
last_fact_position (f ∷ fs) = max (position_of f) (last_fact_position fs)

-- the ballot that a fact promises at p
abbrev pub promise_at : {C : Type 0} → ℕ → Fact C → ℕ
promise_at p (Used r) = 0
promise_at p (Promised q b) = if q == p then b else 0
promise_at p (Took q b c) = 0
promise_at p (Chosen q c) = 0

-- the greatest ballot promised at p, and 0 for none
abbrev pub greatest_promise : {C : Type 0} → ℕ → List (Fact C) → ℕ
greatest_promise p [] = 0
greatest_promise p (f ∷ fs) = max (promise_at p f) (greatest_promise p fs)

-- a round as a fact; 0 is none
abbrev pub used_fact : {C : Type 0} → ℕ → List (Fact C)
used_fact round = if round == 0 then [] else Used round ∷ []

-- a promise as a fact; 0 is none
abbrev pub promise_fact : {C : Type 0} → ℕ → ℕ → List (Fact C)
promise_fact p ballot = if ballot == 0 then [] else Promised p ballot ∷ []

abbrev pub vote_fact : {C : Type 0} → ℕ → Option (Vote C) → List (Fact C)
vote_fact p None = []
vote_fact p (Some v) = Took p v.ballot v.command ∷ []

abbrev pub learned_fact : {C : Type 0} → ℕ → Option C → List (Fact C)
learned_fact p None = []
learned_fact p (Some c) = Chosen p c ∷ []

-- at a position: the greatest promise, the vote of the greatest ballot, and the command learned
abbrev pub facts_at : {C : Type 0} → ℕ → List (Fact C) → List (Fact C)
facts_at p facts = promise_fact p (greatest_promise p facts)
    ++ (vote_fact p (taken_vote p facts) ++ learned_fact p (learned_command p facts))

-- those of n positions from one on
abbrev pub facts_from : {C : Type 0} → ℕ → ℕ → List (Fact C) → List (Fact C)
facts_from from zero facts = []
facts_from from (suc n) facts = facts_at from facts ++ facts_from (suc from) n facts

-- the greatest round used, and then those of each position
abbrev pub compact : {C : Type 0} → List (Fact C) → List (Fact C)
compact facts = used_fact (used_round facts) ++ facts_from 0 (suc (last_fact_position facts)) facts
