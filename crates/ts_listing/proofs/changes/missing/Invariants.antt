use Rattle.std.proofs.Common.{◌≡◌, ℕ, List, map, take, Vec, Global}
use Rattle.std.specs.Borrow.{Bor}
use Rattle.ts_listing.specs.Changes.{missing}
use Rattle.ts_listing.proofs.changes.missing.Given as goal

abbrev pub invariant-loop-row : goal.invariant-loop-row
invariant-loop-row l =
    map (λ (row : Bor (List ℕ)). row.now) l.kept.items ≡ missing (map (λ (other : Vec ℕ Global). other.items) l.others) (map (λ (row : Vec ℕ Global). row.items) (take l.row-index l.rows))
