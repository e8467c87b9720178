use Rattle.std.proofs.Common.{◌≡◌, List, [], ◌∷◌, true, length}
use Rattle.ts_der.specs.Element.{inside}
use Rattle.ts_der.specs.Reading.{many}
use Rattle.ts_der.specs.View.{now}
use Rattle.ts_der.proofs.Many.{with_front}
use Rattle.ts_name.specs.Canon.{Attr}
use Rattle.ts_name.specs.Names.{attribute_at}
use Rattle.ts_name.proofs.name_reading.check_attributes.Given as goal

abbrev pub invariant-loop-rest : goal.invariant-loop-rest
invariant-loop-rest l =
    (front : List Attr) × (with_front front (many attribute_at l.rest) ≡ many attribute_at (inside (now l.set)))
    × (l.is_first ≡ true → front ≡ []) × (l.is_single ≡ true → (x : Attr) × (front ≡ x ∷ []))

abbrev pub decreases-loop-rest : goal.decreases-loop-rest
decreases-loop-rest l = length l.rest.rest
