-- so many anchors have no front
use Rattle.std.proofs.Common.{◌≡◌, ℕ, List, [], length}
use Rattle.std.specs.List.{AllByRecursion}
use Rattle.ts_search.specs.inside.Dead.{fronts_in}
use Rattle.ts_search.proofs.fronts.no_fronts.Given as goal

abbrev pub invariant-loop-anchor : goal.invariant-loop-anchor
invariant-loop-anchor l = record {
  count : length l.fronts.items ≡ l._anchor;
  empty : AllByRecursion (λ (row : List (List ℕ)). row ≡ []) (fronts_in l.fronts.items);
}
