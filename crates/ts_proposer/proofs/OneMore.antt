-- One more node in a count, and among those that reported a vote; and more facts.
use Rattle.std.proofs.Common.{◌≡◌, ◌+◌, ◌++◌, ◌∷◌, ℕ, suc, max, List, [], Bool, Option, if◌then◌else◌, refl, arith, add-one}
use Rattle.ts_synod.specs.declared.message.Fact.{Fact}
use Rattle.ts_synod.specs.declared.message.Vote.{Vote}
use Rattle.ts_synod.specs.Majority.{count}
use Rattle.ts_synod.specs.Force.{greater_vote, used_round}
use Rattle.ts_synod.specs.Proposer.{greatest_reported, reported_vote}

pub count_more : (q : ℕ → Bool) (n : ℕ) → count q (n + 1) ≡ (if q (n + 1) then suc (count q n) else count q n)
count_more q n = rw add-one refl

pub greatest_more : {C : Type 0} (promises : ℕ → Option (Option (Vote C))) (n : ℕ) → greatest_reported promises (n + 1) ≡ greater_vote (greatest_reported promises n) (reported_vote (promises (n + 1)))
greatest_more promises n = rw add-one refl

pub used_more : {C : Type 0} (fs gs : List (Fact C)) → used_round (fs ++ gs) ≡ max (used_round fs) (used_round gs)
used_more [] gs = omega arith
used_more (f ∷ fs) gs = let h = used_more fs gs in omega arith
