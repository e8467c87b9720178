use Rattle.std.proofs.Common.{◌≡◌, List, ◌++◌, length}
use Rattle.ts_name.specs.Canon.{Attr}
use Rattle.ts_name.specs.NameView.{attributes_in}
use Rattle.ts_name.proofs.sameness.size.Given as goal

abbrev pub invariant-loop : goal.invariant-loop
invariant-loop l =
    (goal.iterator-loop).can_next l.iterator' × (goal.iterator-loop).is_finite l.iterator'
    × (front : List Attr) × (attributes_in l.rdn ≡ front ++ l.iterator') × (l.size ≡ length front)
