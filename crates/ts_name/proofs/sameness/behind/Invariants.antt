use Rattle.std.proofs.Common.{◌≡◌, List, ◌++◌}
use Rattle.ts_name.specs.Canon.{Attr}
use Rattle.ts_name.specs.Sameness.{canon_name}
use Rattle.ts_name.proofs.sameness.behind.Given as goal

abbrev pub invariant-loop-wanted : goal.invariant-loop-wanted
invariant-loop-wanted l =
    (goal.iterator-loop-wanted).can_next l.wanted-iterator × (goal.iterator-loop-wanted).is_finite l.wanted-iterator
    × (taken passed : List (List Attr)) × (l.fn.front ≡ taken ++ l.wanted-iterator) × (l.fn.name ≡ passed ++ l.rest) × (canon_name passed ≡ canon_name taken)
