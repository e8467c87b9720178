-- What the rows that are left come to, all come to.
use Rattle.std.proofs.Common.{Option, drop, map}
use Rattle.ts_sent.specs.Sent.{IsNearest, issuers_of}
use Rattle.ts_sent.specs.declared.above.AnchorAbove.{AnchorAbove}
use Rattle.ts_sent.proofs.above.nearest.Given as goal

abbrev pub invariant-loop-row : goal.invariant-loop-row
invariant-loop-row l = (nearest : Option AnchorAbove)
    → IsNearest (issuers_of (map (λ octets. octets.items) l.fn.sent)) l.found
    (map (λ row. row.items) (drop l.row-index l.rows)) nearest
    → IsNearest (issuers_of (map (λ octets. octets.items) l.fn.sent)) l.fn.found
    (map (λ row. row.items) l.rows) nearest
