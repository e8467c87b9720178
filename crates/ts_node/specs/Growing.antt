-- What joins the prefix of a log, and how far a machine is behind it.
use Rattle.std.proofs.Common.{◌≡◌, ℕ, List, [], ◌∷◌, Option, Bool, true, false, length, take}
use Rattle.std.proofs.Common.{if◌then◌else◌}
use Rattle.ts_synod.specs.Store.{same_id}
use Rattle.ts_synod.specs.Log.{prefix}

-- the commands are the first of those learned without a gap
abbrev pub IsPart : {C : Type 0} → List C → (ℕ → Option C) → Type 0
IsPart commands learned = commands ≡ take (length commands) (prefix learned)

-- one of the commands has this id
abbrev pub has_id : {C : Type 0} → (C → List ℕ) → List ℕ → List C → Bool
has_id id_of id [] = false
has_id id_of id (c ∷ cs) = if same_id (id_of c) id then true else has_id id_of id cs
