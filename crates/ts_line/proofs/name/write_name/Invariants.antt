use Rattle.std.proofs.Common.{◌≡◌, ◌++◌, List}
use Rattle.std.specs.Prelude.{codes}
use Rattle.std.specs.List.{flat_map}
use Rattle.ts_line.specs.Names.{rdn_text}
use Rattle.ts_name.specs.Canon.{Attr}
use Rattle.ts_line.proofs.name.write_name.Given as goal

abbrev pub invariant-loop-rdn : goal.invariant-loop-rdn
invariant-loop-rdn l =
    (goal.iterator-loop-rdn).can_next l.rdn-iterator × (goal.iterator-loop-rdn).is_finite l.rdn-iterator
    × (l.line ++ flat_map (λ (y : List Attr). codes "," ++ rdn_text y) l.rdn-iterator
    ≡ l.initial.line ++ flat_map (λ (y : List Attr). codes "," ++ rdn_text y) l.initial.rdn-iterator)
