-- What an acceptor has promised and taken, and the facts of a node that this comes from ('Paxos
-- Made Simple' 2.5: what an acceptor must remember over a restart).
use Rattle.std.proofs.Common.{◌≡◌, ℕ, List, Option, Some, None}
use Rattle.std.specs.Ordering.{nat_cmp}
use Rattle.std.specs.BTreeMap.{BTreeMap, get}
use Rattle.ts_synod.specs.declared.message.Fact.{Fact}
use Rattle.ts_synod.specs.declared.message.Vote.{Vote}
use Rattle.ts_synod.specs.Config.{Config}
use Rattle.ts_synod.specs.Force.{promised_ballot, taken_vote}
use Rattle.ts_synod.specs.Places.{or_none}
use Rattle.ts_acceptor.specs.declared.acceptor.Acceptor.{Acceptor}

-- a ballot, or 0 where there is none
abbrev pub or_zero : Option ℕ → ℕ
or_zero None = 0
or_zero (Some n) = n

-- the greatest ballot promised or taken at p
abbrev pub promised_at : {C : Type 0} → Acceptor C → ℕ → ℕ
promised_at a p = or_zero (get nat_cmp a.promised p)

-- the vote of the greatest ballot taken at p
abbrev pub taken_at : {C : Type 0} → Acceptor C → ℕ → Option (Vote C)
taken_at a p = or_none (get nat_cmp a.taken p)

-- the number of nodes, and this node's number
abbrev pub config_of : {C : Type 0} → Acceptor C → Config
config_of a = record { nodes = a.nodes; me = a.me }

-- the map has the promised ballots of the facts
abbrev pub HasBallots : {C : Type 0} → BTreeMap ℕ ℕ → List (Fact C) → Type 0
HasBallots m facts = (p : ℕ) → or_zero (get nat_cmp m p) ≡ promised_ballot p facts

-- the map has the taken votes of the facts
abbrev pub HasVotes : {C : Type 0} → BTreeMap ℕ (Option (Vote C)) → List (Fact C) → Type 0
HasVotes m facts = (p : ℕ) → or_none (get nat_cmp m p) ≡ taken_vote p facts

-- the acceptor has promised and taken what a node's facts say
pub record StandsFor {C : Type 0} (a : Acceptor C) (facts : List (Fact C)) : Type 0 where
  pub promised : HasBallots a.promised facts
  pub taken : HasVotes a.taken facts

-- nothing that an acceptor has promised or taken is changed
pub record IsUnchanged {C : Type 0} (a b : Acceptor C) : Type 0 where
  pub config : config_of b ≡ config_of a
  pub promised : (p : ℕ) → promised_at b p ≡ promised_at a p
  pub taken : (p : ℕ) → taken_at b p ≡ taken_at a p
