-- The replicated state machine (Paxos Made Simple 3): any deterministic fold over the chosen
-- commands, and any answer over the state that it makes. C is the commands, O their outcomes, T the
-- state, Q the questions and V the answers to them.
use Rattle.std.proofs.Common.{ℕ, suc, List, [], Option, Some, None, Bool, true, false, ◌∷◌, ◌==◌}
use Rattle.std.proofs.Common.{◌&&◌, if◌then◌else◌}

-- a state machine, and a client's id in each command
pub record Store (C O T Q V : Type 0) : Type 0 where
  pub id_of : C → List ℕ
  pub empty : T
  pub step : T → C → T × O  -- the state after a command, and its outcome
  pub answer : T → Q → V  -- the answer to a question

-- two ids have the same octets
abbrev pub same_id : List ℕ → List ℕ → Bool
same_id [] [] = true
same_id [] (b ∷ bs) = false
same_id (a ∷ as') [] = false
same_id (a ∷ as') (b ∷ bs) = (a == b) && same_id as' bs

-- the state after these commands, from t on
abbrev pub tables_after : {C O T Q V : Type 0} → Store C O T Q V → T → List C → T
tables_after store t [] = t
tables_after store t (c ∷ cs) = tables_after store (store.step t c).0 cs

-- the state after these commands (3)
abbrev pub tables : {C O T Q V : Type 0} → Store C O T Q V → List C → T
tables store cs = tables_after store store.empty cs

-- a position, and the outcome of the command there
pub record Settling (O : Type 0) : Type 0 where
  pub position : ℕ
  pub outcome : O

-- where the first of the commands with this id is, and its outcome; t is the state before them, and
-- p the position of the first
abbrev pub found_command : {C O T Q V : Type 0} → Store C O T Q V → List ℕ → T → ℕ → List C
    → Option (Settling O)
found_command store id t p [] = None
found_command store id t p (c ∷ cs) = if same_id (store.id_of c) id
    then Some (record { position = p; outcome = (store.step t c).1 })
    else found_command store id (store.step t c).0 (suc p) cs

-- where an id first is among the commands of positions 1, 2 and so on
abbrev pub settling : {C O T Q V : Type 0} → Store C O T Q V → List C → List ℕ → Option (Settling O)
settling store cs id = found_command store id store.empty 1 cs
