-- Which of two disks is in use: the one of the greatest generation among those whose live gate is
-- open; none where two are live and not of one node and group.
use Rattle.std.specs.Prelude.{◌≡◌, ◌≢◌, ◌<◌, ◌≤◌, ℕ, List, ◌∷◌, ◌++◌, length, cond, nat_lt, Option}
use Rattle.std.specs.Prelude.{Some, None, Bool, true, false, nat_eq, ◌&&◌}
use Rattle.ts_journal.specs.Images.{Header, IsRight, head, IsShut, IsEarlier, Behind}
use Rattle.ts_journal.specs.declared.choice.Owner.{Owner}
use Rattle.ts_journal.specs.declared.choice.Look.{Look}
use Rattle.ts_journal.specs.declared.choice.Look.TheVariants.{Short, Shut, Wrong, Right}
use Rattle.ts_journal.specs.declared.choice.Choice.{Choice}
use Rattle.ts_journal.specs.declared.journal.Stage.{Stage}
use Rattle.ts_journal.specs.declared.journal.Stage.TheVariants.{Live, Closed, Begun, Copying}

abbrev pub header_of_owner : Owner → Header
header_of_owner owner = record
    { node = owner.node; nodes = owner.nodes; group = owner.group; generation = owner.generation }

-- of one node and group
abbrev pub is_same_owner : Owner → Owner → Bool
is_same_owner x y = nat_eq x.node y.node && nat_eq x.nodes y.nodes && nat_eq x.group y.group

-- a right header, and an open live gate
pub record IsLive (h : Header) (image : List ℕ) : Type 0 where
  pub right : IsRight h
  pub live : ℕ
  pub wide : live ≢ 0
  pub rest : List ℕ
  pub is : image ≡ head h ++ (live ∷ rest)

abbrev pub LooksLike : List ℕ → Look → Type 0
LooksLike image Short = length image < 25
LooksLike image Shut = IsShut image
LooksLike image Wrong = (25 ≤ length image) × ((h : Header) → IsLive h image → ⊥)
    × (IsShut image → ⊥)
LooksLike image (Right owner) = IsLive (header_of_owner owner) image

abbrev pub choice_of : Look → Look → Option Choice
choice_of (Right first) Shut = Some (record { swapped = false; owner = first; stage = Closed })
choice_of Shut (Right second) = Some (record { swapped = true; owner = second; stage = Closed })
choice_of (Right first) (Right second) =
    cond (is_same_owner first second)
    (cond (nat_lt second.generation first.generation)
    (Some (record { swapped = false; owner = first; stage = Live }))
    (cond (nat_lt first.generation second.generation)
    (Some (record { swapped = true; owner = second; stage = Live })) None)) None
choice_of a b = None

-- what the disk that isn't in use holds, by its stage
abbrev pub IsOther : Stage → Header → List ℕ → Type 0
IsOther Live h image = IsEarlier h image
IsOther Closed h image = IsShut image
IsOther Begun h image = ⊥
IsOther Copying h image = ⊥

-- The chosen disk is live, and the other is shut, or of the same node and group and of an earlier
-- generation.
pub record IsChosen (choice : Choice) (a b : List ℕ) : Type 0 where
  pub live : IsLive (header_of_owner choice.owner) (cond choice.swapped b a)
  pub other : IsOther choice.stage (header_of_owner choice.owner) (cond choice.swapped a b)

-- no disk is live while the other is shut, or the same node's and of an earlier generation
pub record Unchosen (a b : List ℕ) : Type 0 where
  pub first : (h : Header) → IsLive h a → Behind h b → ⊥
  pub second : (h : Header) → IsLive h b → Behind h a → ⊥
