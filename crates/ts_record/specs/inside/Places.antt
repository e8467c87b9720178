-- What a table of positions holds while facts are compacted.
use Rattle.std.specs.Prelude.{ℕ, zero, suc, max, List, [], ◌∷◌, ◌++◌, Some}
use Rattle.ts_synod.specs.Force.{greater_vote, first_some, taken_vote, learned_command}
use Rattle.ts_synod.specs.declared.message.Fact.{Fact}
use Rattle.ts_synod.specs.declared.message.Fact.TheVariants.{Used, Promised, Took, Chosen}
use Rattle.ts_record.specs.declared.compacted.Place.{Place}
use Rattle.ts_record.specs.Compacted.{greatest_promise, promise_fact, vote_fact, learned_fact}

-- what facts say of a position
abbrev pub place_of : {C : Type 0} → ℕ → List (Fact C) → Place C
place_of p facts = record {
  promised = greatest_promise p facts;
  taken = taken_vote p facts;
  learned = learned_command p facts;
}

-- what they say of n positions from one on
abbrev pub places : {C : Type 0} → ℕ → ℕ → List (Fact C) → List (Place C)
places from zero facts = []
places from (suc n) facts = place_of from facts ∷ places (suc from) n facts

-- a place with one more fact, which is about its position
abbrev pub with_fact : {C : Type 0} → Place C → Fact C → Place C
with_fact place (Used r) = place
with_fact place (Promised p b) = record
    { promised = max place.promised b; taken = place.taken; learned = place.learned }
with_fact place (Took p b c) = record {
  promised = place.promised;
  taken = greater_vote place.taken
      (Some (record { ballot = b; command = c }));
  learned = place.learned;
}
with_fact place (Chosen p c) = record {
  promised = place.promised;
  taken = place.taken;
  learned = first_some place.learned (Some c);
}

-- the facts of a place
abbrev pub facts_of : {C : Type 0} → ℕ → Place C → List (Fact C)
facts_of p place = promise_fact p place.promised
    ++ (vote_fact p place.taken ++ learned_fact p place.learned)

-- the facts of places from a position on
abbrev pub facts_of_all : {C : Type 0} → ℕ → List (Place C) → List (Fact C)
facts_of_all from [] = []
facts_of_all from (place ∷ places) = facts_of from place ++ facts_of_all (suc from) places
