-- Facts, how they are encoded, and which have an encoding. A command's encoding is its codec's.
use Rattle.std.specs.Prelude.{◌≡◌, ◌≤◌, ◌<◌, ◌^◌, ◌%◌, ℕ, List, ◌∷◌, ◌++◌, length, map, drop}
use Rattle.std.specs.Prelude.{Option, MatchOption}
use Rattle.std.specs.List.{flat_map, AllByRecursion}
use Rattle.std.specs.Int.{to_be_bytes, w32, w64}
use Rattle.ts_journal.specs.Images.{Member, Opens}
use Rattle.ts_synod.specs.declared.message.Fact.{Fact}
use Rattle.ts_synod.specs.declared.message.Fact.TheVariants.{Used, Promised, Took, Chosen}

-- four octets of length, and that many octets
abbrev pub blob : List ℕ → List ℕ
blob octets = to_be_bytes w32 (length octets) ++ octets

-- a kind octet, and the fields
abbrev pub fact_encoding : {C : Type 0} → (C → List ℕ) → Fact C → List ℕ
fact_encoding octets (Used round) = 1 ∷ to_be_bytes w32 round
fact_encoding octets (Promised position ballot) =
    2 ∷ (to_be_bytes w32 position ++ to_be_bytes w64 ballot)
fact_encoding octets (Took position ballot command) =
    3 ∷ (to_be_bytes w32 position ++ (to_be_bytes w64 ballot ++ blob (octets command)))
fact_encoding octets (Chosen position command) = 4 ∷
    (to_be_bytes w32 position ++ blob (octets command))

-- the facts of a body, one after the other
abbrev pub encodings : {C : Type 0} → (C → List ℕ) → List (Fact C) → List ℕ
encodings octets facts = flat_map (fact_encoding octets) facts

-- 1 to 1,000,000
pub record IsPosition (position : ℕ) : Type 0 where
  pub from : 1 ≤ position
  pub to : position ≤ 1000000

pub record IsRound (round : ℕ) : Type 0 where
  pub from : 1 ≤ round
  pub to : round < 2 ^ 32

-- a round of at least 1, and a node of 1 to 9 in the low four bits
pub record IsBallot (ballot : ℕ) : Type 0 where
  pub from : 16 ≤ ballot
  pub to : ballot < 2 ^ 36
  pub node_from : 1 ≤ ballot % 16
  pub node_to : ballot % 16 ≤ 9

-- there are octets, and their length can be written
pub record IsBlob (octets : List ℕ) : Type 0 where
  pub some : 1 ≤ length octets
  pub short : length octets < 2 ^ 32

-- each field is in its range
abbrev pub FactFits : {C : Type 0} → (C → List ℕ) → Fact C → Type 0
FactFits octets (Used round) = IsRound round
FactFits octets (Promised position ballot) = IsPosition position × IsBallot ballot
FactFits octets (Took position ballot command) =
    IsPosition position × IsBallot ballot × IsBlob (octets command)
FactFits octets (Chosen position command) = IsPosition position × IsBlob (octets command)

abbrev pub AllFit : {C : Type 0} → (C → List ℕ) → List (Fact C) → Type 0
AllFit octets facts = AllByRecursion (FactFits octets) facts

-- one body for each list of facts
abbrev pub bodies_of : {C : Type 0} → (C → List ℕ) → List (List (Fact C)) → List (List ℕ)
bodies_of octets groups = map (encodings octets) groups

-- these bodies hold these facts
pub record AreFacts {C : Type 0} (octets : C → List ℕ) (bodies : List (List ℕ))
    (facts : List (Fact C)) : Type 0 where
  pub groups : List (List (Fact C))
  pub fit : AllByRecursion (AllFit octets) groups
  pub encoded : bodies_of octets groups ≡ bodies
  pub joined : flat_map (λ group. group) groups ≡ facts

-- no fact begins here
abbrev pub NoFact : {C : Type 0} → (C → List ℕ) → List ℕ → Type 0
NoFact {C} octets rest = (fact : Fact C) (after : List ℕ) → FactFits octets fact
    → rest ≡ fact_encoding octets fact ++ after → ⊥

-- the fact that begins here, and the length of its octets; or no fact begins here
abbrev pub Begins : {C : Type 0} → (C → List ℕ) → List ℕ → Option (Fact C × ℕ) → Type 0
Begins octets rest found = MatchOption found (NoFact octets rest)
    (λ read. FactFits octets read.0 × (1 ≤ read.1) × (read.1 ≤ length rest)
    × (rest ≡ fact_encoding octets read.0 ++ drop read.1 rest))

-- the same after the octet of its kind
abbrev pub FactOrNot : {C : Type 0} → (C → List ℕ) → ℕ → List ℕ → Option (Fact C × ℕ) → Type 0
FactOrNot octets kind fields found = Begins octets (kind ∷ fields) found

-- the pair of images opens to these facts, as the record of this member
abbrev pub OpensTo : {C : Type 0} → (C → List ℕ) → Member → List (Fact C) → List ℕ → List ℕ → Type 0
OpensTo octets member facts a b =
    (bodies : List (List ℕ)) × Opens member bodies a b × AreFacts octets bodies facts
