use Rattle.std.proofs.Common.{ℕ, List, subst, sym}
use Rattle.ts_cert.specs.Layout.{AreLaidOut}
use Rattle.ts_cert.proofs.owned.OwnedCert.read.Goals as goal

pub invariant_of-result : goal.invariant_of-result
invariant_of-result c = subst (λ (o : List ℕ). AreLaidOut o c.in_ok-layout.layout) (sym c.in_ok-octets.ensures) c.in_ok-layout.ensures.laid
