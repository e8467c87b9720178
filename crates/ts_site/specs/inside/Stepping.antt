-- What one step of `Face::take` does.
use Rattle.std.specs.Prelude.{◌≡◌, ℕ, ◌≤◌, ◌⊎◌, Bool, true, false, List, [], ◌∷◌, Some, length}
use Rattle.ts_http.specs.Moves.{is_ended}
use Rattle.ts_http.specs.Reading.{is_due}
use Rattle.ts_api.specs.declared.scene.Scene.{Scene}
use Rattle.ts_site.specs.Faces.{IsAtRest, State, Takes, count_due}
use Rattle.ts_site.specs.declared.face.Asking.{Asking}

-- no request waits for its response but one that the node is to be asked about
abbrev pub IsSettled : State → Type 0
IsSettled t = (is_due t.0.stage ≡ true) ⊎ (is_ended t.0 ≡ true)
    ⊎ ((asking : Asking) × (t.1 ≡ Some asking))

-- what comes behind these steps: more of them, or nothing before more octets come
abbrev pub Leads : Bool → List State → State → State → Type 0
Leads true mids s t = IsSettled t × (is_ended s.0 ≡ false)
Leads false mids s t = IsAtRest mids t

-- something was read or answered, what was due among it; and whether there may be another step
abbrev pub IsStep : Scene → ℕ → State → State → Bool → Type 0
IsStep scene now s t more = (mids : List State) × Takes scene now s mids t × (1 ≤ length mids)
    × (count_due (s ∷ []) ≤ count_due mids) × Leads more mids s t
