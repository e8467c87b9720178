-- Places in the maps of a role. A place that was made for a value to come holds None.
use Rattle.std.proofs.Common.{◌≡◌, Option, Some, None, cond}
use Rattle.std.specs.declared.cmp.Ordering.{Ordering}
use Rattle.std.specs.BTreeMap.{BTreeMap, get, is_at}

-- the new map is the old one, but v at the key q
abbrev pub PutsAt : {K V : Type 0} → (K → K → Ordering) → BTreeMap K V → BTreeMap K V → K → V
    → Type 0
PutsAt {K} cmp old new q v = (p : K)
    → get cmp new p ≡ cond (is_at (cmp q) p) (Some v) (get cmp old p)

-- the value at a place, where an empty place is as none
abbrev pub or_none : {A : Type 0} → Option (Option A) → Option A
or_none None = None
or_none (Some t) = t
