-- The replicated state machine of a node (Paxos Made Simple 3). Its state is the list of the
-- commands taken so far: whatever it computes from them, an outcome is a function of the commands
-- before, and an answer is a relation to them.
use Rattle.std.proofs.Common.{ℕ, List, [], ◌∷◌, ◌++◌, Option, Some, None}
use Rattle.ts_synod.specs.Store.{Settling, Store}

-- the store of the world: a client's id in each command, and the outcome of a command after others
abbrev pub store_of : {C O : Type 0} → (Q : Type 0) → (C → List ℕ) → (List C → C → O)
    → Store C O (List C) Q (List C)
store_of Q id outcome = record
    { id_of = id; empty = []; step = λ cs c. (cs ++ c ∷ [], outcome cs c); answer = λ cs q. cs }

-- a position and an outcome
abbrev pub settling_as : {O : Type 0} → Option (ℕ × O) → Option (Settling O)
settling_as None = None
settling_as (Some s) = Some (record { position = s.0; outcome = s.1 })
