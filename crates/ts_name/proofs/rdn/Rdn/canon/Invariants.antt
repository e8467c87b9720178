use Rattle.std.proofs.Common.{◌≡◌, List, ◌++◌}
use Rattle.std.specs.Prelude.{map}
use Rattle.ts_name.specs.Canon.{Attr, canon_attr}
use Rattle.ts_name.specs.CanonView.{attr_in}
use Rattle.ts_name.specs.NameView.{attributes_in}
use Rattle.ts_name.proofs.rdn.Rdn.canon.Given as goal

abbrev pub invariant-loop-attribute : goal.invariant-loop-attribute
invariant-loop-attribute l =
    (goal.iterator-loop-attribute).can_next l.attribute-iterator × (goal.iterator-loop-attribute).is_finite l.attribute-iterator
    × (front : List Attr) × (attributes_in l.self ≡ front ++ l.attribute-iterator) × (map attr_in l.attributes.items ≡ map canon_attr front)
