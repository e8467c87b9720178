-- The chain so far goes up from the leaf.
use Rattle.std.proofs.Common.{◌-◌, length, map}
use Rattle.ts_cert.specs.CertView.{cert_in}
use Rattle.ts_path.specs.View.{anchor_in}
use Rattle.ts_verify.proofs.Named.{IsUpTo}
use Rattle.ts_verify.proofs.line.line_of.Given as goal

abbrev pub invariant-loop-digest : goal.invariant-loop-digest
invariant-loop-digest g l =
    IsUpTo (g.S.SignatureCheck.accepts l.check) (map anchor_in l.anchors) (map cert_in l.certificates) l.places.items l.top

abbrev pub decreases-loop-digest : goal.decreases-loop-digest
decreases-loop-digest g l = 16 - length l.places.items
