use Rattle.std.proofs.Common.{◌≡◌, List, length}
use Rattle.ts_der.specs.Reading.{many}
use Rattle.ts_der.proofs.Many.{with_front}
use Rattle.ts_name.specs.Canon.{Attr}
use Rattle.ts_name.specs.Names.{rdn_at}
use Rattle.ts_name.proofs.name_reading.check_rdns.Given as goal

abbrev pub invariant-loop-rest : goal.invariant-loop-rest
invariant-loop-rest l = (front : List (List Attr)) × (with_front front (many rdn_at l.rest) ≡ many rdn_at l.initial.rest)

abbrev pub decreases-loop-rest : goal.decreases-loop-rest
decreases-loop-rest l = length l.rest.rest
