use Rattle.std.proofs.Common.{◌≡◌, ◌+◌, ◌≤◌, List, length}
use Rattle.ts_der.specs.Element.{inside}
use Rattle.ts_der.specs.Reading.{many}
use Rattle.ts_der.specs.View.{now}
use Rattle.ts_der.proofs.Many.{with_front}
use Rattle.ts_shape.specs.Items.{each}
use Rattle.ts_extensions.specs.Extension.{Located, located_in}
use Rattle.ts_crl.specs.inside.Findings.{join, found_among}
use Rattle.ts_crl.specs.FindingsView.{findings_in}
use Rattle.ts_crl.proofs.noting.note_extensions.Given as goal

-- the extensions so far, what is left to read, what was found in those so far, and how many they are
abbrev pub invariant-loop-rest : goal.invariant-loop-rest
invariant-loop-rest l =
    (front : List Located) × (with_front front (many (each located_in) l.rest) ≡ many (each located_in) (inside (now l.element)))
    × (findings_in l.findings ≡ join (findings_in l.fn.findings) (found_among front)) × (l.count ≡ length front) × (l.count + length l.rest.rest ≤ length l.element.content.now)

abbrev pub decreases-loop-rest : goal.decreases-loop-rest
decreases-loop-rest l = length l.rest.rest
