-- what is made, and what is left of the row, come to the same up to the limit
use Rattle.std.proofs.Common.{◌≡◌, ◌≤◌, ◌++◌, ◌∷◌, length, map, filter, take, drop}
use Rattle.ts_search.specs.inside.Levels.{is_new}
use Rattle.ts_search.proofs.levels.extend.Given as goal

abbrev pub invariant-loop-above : goal.invariant-loop-above
invariant-loop-above l =
    record {
      made : take l.limit (map (λ c. c.items) l.chains.items
          ++ map (λ i. i ∷ l.chain) (filter (is_new l.chain) (drop l.above-index l.above-items))) ≡
          take l.limit (map (λ c. c.items) l.fn.chains.items
          ++ map (λ i. i ∷ l.chain) (filter (is_new l.chain) l.above-items));
      few : length l.chains.items ≤ l.limit;
    }
