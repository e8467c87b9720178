use Rattle.std.proofs.Common.{◌≡◌, List, ◌++◌}
use Rattle.ts_name.specs.Canon.{Attr}
use Rattle.ts_name.specs.CanonView.{rdns_in}
use Rattle.ts_name.specs.NameView
use Rattle.ts_name.specs.Sameness.{canon_name}
use Rattle.ts_name.proofs.name.Name.canon.Given as goal

abbrev pub invariant-loop-rdn : goal.invariant-loop-rdn
invariant-loop-rdn l =
    (goal.iterator-loop-rdn).can_next l.rdn-iterator × (goal.iterator-loop-rdn).is_finite l.rdn-iterator
    × (front : List (List Attr)) × (NameView.rdns_in l.self ≡ front ++ l.rdn-iterator) × (rdns_in l.canon ≡ canon_name front)
