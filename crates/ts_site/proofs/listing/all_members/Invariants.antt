-- What is told of the rows that are left may stand behind what is told; what is no row among them is
-- one of all.
use Rattle.std.proofs.Common.{List, drop, map, ◌+◌, ◌++◌}
use Rattle.ts_json.specs.Members.{NamedValue, named_value}
use Rattle.ts_site.specs.Listings.{AreMembers, HasNoRow}
use Rattle.ts_site.proofs.listing.all_members.Given as goal

abbrev pub invariant-loop-place : goal.invariant-loop-place
invariant-loop-place l = ((rest : List (List NamedValue))
    → AreMembers (l.from + l.place) (drop l.place (map (λ row. row.items) l.rows)) rest
    → AreMembers l.from (map (λ row. row.items) l.rows) (map (λ row. map named_value row.items) l.all.items ++ rest))
    × (HasNoRow (drop l.place (map (λ row. row.items) l.rows)) → HasNoRow (map (λ row. row.items) l.rows))
