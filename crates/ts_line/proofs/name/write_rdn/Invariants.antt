use Rattle.std.proofs.Common.{◌≡◌, ◌++◌}
use Rattle.std.specs.Prelude.{codes}
use Rattle.std.specs.List.{flat_map}
use Rattle.ts_line.specs.Names.{attribute_text}
use Rattle.ts_name.specs.Canon.{Attr}
use Rattle.ts_line.proofs.name.write_rdn.Given as goal

abbrev pub invariant-loop-attribute : goal.invariant-loop-attribute
invariant-loop-attribute l =
    (goal.iterator-loop-attribute).can_next l.attribute-iterator × (goal.iterator-loop-attribute).is_finite l.attribute-iterator
    × (l.line ++ flat_map (λ (y : Attr). codes "+" ++ attribute_text y) l.attribute-iterator
    ≡ l.initial.line ++ flat_map (λ (y : Attr). codes "+" ++ attribute_text y) l.initial.attribute-iterator)
