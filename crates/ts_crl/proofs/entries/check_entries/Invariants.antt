use Rattle.std.proofs.Common.{◌≡◌, List, length}
use Rattle.ts_der.specs.Element.{inside}
use Rattle.ts_der.specs.Reading.{many}
use Rattle.ts_der.specs.View.{now}
use Rattle.ts_der.proofs.Many.{with_front}
use Rattle.ts_shape.specs.Items.{each}
use Rattle.ts_crl.specs.Findings.{findings_of}
use Rattle.ts_crl.specs.FindingsView.{findings_in}
use Rattle.ts_crl.specs.List.{LocatedEntry}
use Rattle.ts_crl.specs.Reading.{located_entry_of}
use Rattle.ts_crl.proofs.entries.check_entries.Given as goal

abbrev pub invariant-loop-rest : goal.invariant-loop-rest
invariant-loop-rest l =
    (front : List LocatedEntry) × (with_front front (many (each located_entry_of) l.rest) ≡ many (each located_entry_of) (inside (now l.element))) × (findings_in l.findings ≡ findings_of front)

abbrev pub decreases-loop-rest : goal.decreases-loop-rest
decreases-loop-rest l = length l.rest.rest
