use Rattle.std.proofs.Common.{◌≡◌, List, ◌++◌}
use Rattle.std.specs.List.{flat_map}
use Rattle.ts_name.specs.Canon.{Attr}
use Rattle.ts_name.specs.NameView.{rdns_in}
use Rattle.ts_constraint.specs.Conditions.{EachNameMeets}
use Rattle.ts_constraint.specs.Names.{addresses_of}
use Rattle.ts_constraint.proofs.bounds.Bounds.first_of_addresses.Given as goal

abbrev pub invariant-loop-rdn : goal.invariant-loop-rdn
invariant-loop-rdn l =
    (goal.iterator-loop-rdn).can_next l.rdn-iterator × (goal.iterator-loop-rdn).is_finite l.rdn-iterator
    × (front : List (List Attr)) × (rdns_in l.subject ≡ front ++ l.rdn-iterator) × EachNameMeets l.condition l.self (addresses_of (flat_map (λ rdn. rdn) front))
