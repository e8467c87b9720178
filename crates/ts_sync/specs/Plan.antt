-- What makes a store hold exactly some anchors and CRLs.
use Rattle.std.specs.Prelude.{◌≡◌, ◌==◌, ℕ, Bool, true, false, not, List, [], ◌∷◌, ◌++◌, map}
use Rattle.std.specs.Prelude.{filter, if◌then◌else◌, length}
use Rattle.std.specs.List.{list_any}
use Rattle.std.specs.Str.{bytes_eq}
use Rattle.ts_sync.specs.declared.planning.Holding.{Holding}
use Rattle.ts_sync.specs.declared.planning.StepKind.{StepKind}
use Rattle.ts_sync.specs.declared.planning.StepKind.TheVariants.{Add, Load, Drop, Withdraw}
use Rattle.ts_sync.specs.declared.planning.PlanStep.{PlanStep}

-- the ids of a store's anchors, and those of its CRLs
pub record KeptIds : Type 0 where
  pub anchors : List (List ℕ)
  pub crls : List (List ℕ)

abbrev pub kept_in : Holding → KeptIds
kept_in h = record { anchors = h.anchors.items; crls = h.crls.items }

-- whether an id is among others
abbrev pub has : List (List ℕ) → List ℕ → Bool
has ids id = list_any (bytes_eq id) ids

-- the same ids, in whatever order and however often
abbrev pub AreSame : List (List ℕ) → List (List ℕ) → Type 0
AreSame ids others = (id : List ℕ) → has ids id ≡ has others id

-- the ids that are named; where none are, those that are held
abbrev pub chosen_ids : List (List ℕ) → List (List ℕ) → List (List ℕ)
chosen_ids held named = if length named == 0 then held else named

-- what a store is to hold of which these anchors and CRLs are named
abbrev pub aim : KeptIds → List (List ℕ) → List (List ℕ) → KeptIds
aim held anchors crls =
    record { anchors = chosen_ids held.anchors anchors; crls = chosen_ids held.crls crls }

-- ---- steps

-- something comes into a store
abbrev pub brings : StepKind → Bool
brings Add = true
brings Load = true
brings Drop = false
brings Withdraw = false

abbrev pub step : StepKind → List ℕ → PlanStep
step kind id = record { kind = kind; id = id }

-- what is held after a step, by its kind
abbrev pub taken_by : StepKind → List ℕ → KeptIds → KeptIds
taken_by Add id k = record k { anchors = k.anchors ++ id ∷ [] }
taken_by Load id k = record k { crls = k.crls ++ id ∷ [] }
taken_by Drop id k = record k { crls = filter (λ other. not (bytes_eq other id)) k.crls }
taken_by Withdraw id k = record k { anchors = filter (λ other. not (bytes_eq other id)) k.anchors }

-- what is held after steps
abbrev pub after : KeptIds → List PlanStep → KeptIds
after k [] = k
after k (s ∷ ss) = after (taken_by s.kind s.id k) ss

-- ---- the plan

-- the ids that are not among others, each once, in their order
abbrev pub absent : List (List ℕ) → List (List ℕ) → List (List ℕ)
absent others [] = []
absent others (id ∷ ids) = if has others id then absent others ids
    else id ∷ absent (others ++ id ∷ []) ids

-- what is missing comes, anchors before CRLs; then goes what is not wanted, CRLs before anchors
abbrev pub plan : KeptIds → KeptIds → List PlanStep
plan held wanted = map (step Add) (absent held.anchors wanted.anchors)
    ++ (map (step Load) (absent held.crls wanted.crls)
    ++ (map (step Drop) (absent wanted.crls held.crls)
    ++ map (step Withdraw) (absent wanted.anchors held.anchors)))
