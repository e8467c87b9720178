-- What octets hold that are not what is wanted.
use Rattle.std.specs.Prelude.{◌≡◌, ◌≢◌, ◌⊎◌, ℕ, List, Option, Some, None}
use Rattle.ts_show.specs.Kind.{IsKind}
use Rattle.ts_show.specs.declared.kind.Kind.{Kind}
use Rattle.ts_show.specs.declared.kind.Kind.TheVariants.{Broken, Unknown}

-- another kind that is known; none where they are what is wanted, or nothing that is known
abbrev pub IsOther : Kind → List ℕ → Option Kind → Type 0
IsOther wanted octets None = (kind : Kind) × IsKind octets kind
    × ((kind ≡ wanted) ⊎ ((kind ≡ Broken) ⊎ (kind ≡ Unknown)))
IsOther wanted octets (Some kind) = IsKind octets kind × (kind ≢ wanted) × (kind ≢ Broken)
    × (kind ≢ Unknown)
