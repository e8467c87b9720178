use Rattle.std.proofs.Common.{◌≡◌, List, length}
use Rattle.ts_der.specs.Element.{inside}
use Rattle.ts_der.specs.Reading.{many}
use Rattle.ts_der.specs.View.{now}
use Rattle.ts_der.proofs.Many.{with_front}
use Rattle.ts_shape.specs.Items.{each}
use Rattle.ts_shape.proofs.sequence_of.check_items.Given as goal

abbrev pub invariant-loop-rest : goal.invariant-loop-rest
invariant-loop-rest g l =
    (front : List g.T.FromElement.Record) × (with_front front (many (each g.T.FromElement.reading) l.rest) ≡ many (each g.T.FromElement.reading) (inside (now l.element)))

abbrev pub decreases-loop-rest : goal.decreases-loop-rest
decreases-loop-rest g l = length l.rest.rest
