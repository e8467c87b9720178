use Rattle.std.proofs.Common.{ℕ, List, subst, sym, ◌∙◌}
use Rattle.ts_cert.specs.Layout.{AreLaidOut}
use Rattle.ts_cert.proofs.owned.OwnedCert.of.Goals as goal

pub invariant_of-result : goal.invariant_of-result
invariant_of-result c =
    let A : List ℕ → Type 0 = λ octets. AreLaidOut octets c.in_ok-layout.layout in
    subst A (c.as_slice.ensures ∙ sym c.in_ok-octets.ensures) c.in_ok-layout.ensures.laid
