-- The maps of a log, as the functions that the learner's rules speak of. A place that waits for a
-- step counts as none.
use Rattle.std.proofs.Common.{◌≡◌, ℕ, Option, Some, None, true, is_some}
use Rattle.std.specs.Ordering.{nat_cmp}
use Rattle.std.specs.BTreeMap.{BTreeMap, get}
use Rattle.ts_synod.specs.declared.message.Vote.{Vote}
use Rattle.ts_synod.specs.Places.{or_none}

-- the command learned at p
abbrev pub learned_in : {C : Type 0} → BTreeMap ℕ (Option C) → ℕ → Option C
learned_in m p = or_none (get nat_cmp m p)

-- by sender, the vote received
abbrev pub vote_in : {C : Type 0} → Option (BTreeMap ℕ (Option (Vote C))) → ℕ → Option (Vote C)
vote_in None a = None
vote_in (Some votes) a = or_none (get nat_cmp votes a)

-- by position and sender, the vote received
abbrev pub received_in : {C : Type 0} → BTreeMap ℕ (BTreeMap ℕ (Option (Vote C))) → ℕ → ℕ
    → Option (Vote C)
received_in m p a = vote_in (get nat_cmp m p) a

-- there is a place for a sender's vote
abbrev pub HasPlaceIn : {C : Type 0} → Option (BTreeMap ℕ (Option (Vote C))) → ℕ → Type 0
HasPlaceIn None a = ⊥
HasPlaceIn (Some votes) a = is_some (get nat_cmp votes a) ≡ true
