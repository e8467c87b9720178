-- what is made, and what is to be made of the chains that are left, come to the same up to the limit
use Rattle.std.proofs.Common.{◌≡◌, ◌≤◌, ◌++◌, length, map, flat_map, take, drop}
use Rattle.ts_search.specs.inside.Levels.{longer}
use Rattle.ts_search.proofs.levels.longer.Given as goal

abbrev pub invariant-loop-chain : goal.invariant-loop-chain
invariant-loop-chain l =
    record {
      made : take l.limit (map (λ c. c.items) l.found.items
          ++ flat_map (longer (map (λ row. row.items) l.rows))
          (map (λ c. c.items) (drop l.chain-index l.chains))) ≡ take l.limit
          (flat_map (longer (map (λ row. row.items) l.rows)) (map (λ c. c.items) l.chains));
      few : length l.found.items ≤ l.limit;
    }
