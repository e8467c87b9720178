-- Tests of what there may be.
use Rattle.std.specs.Prelude.{Bool, false, true, Option, Some, None}

-- one step after another, as far as there is something
abbrev pub option_then : {A B : Type 0} → Option A → (A → Option B) → Option B
option_then None f = None
option_then (Some x) f = f x

-- there is something, and the test holds of it
abbrev pub holds_of : {A : Type 0} → Option A → (A → Bool) → Bool
holds_of None f = false
holds_of (Some x) f = f x

-- nothing is there, or the test holds of what is
abbrev pub holds_if : {A : Type 0} → Option A → (A → Bool) → Bool
holds_if None f = true
holds_if (Some x) f = f x
