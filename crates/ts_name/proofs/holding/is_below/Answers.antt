use Rattle.std.proofs.Common.{inl, inr}
use Rattle.std.proofs.lemmas.Bool.{eqb-true}
use Rattle.ts_name.proofs.Domains.{below-by, below-only, not-same}
use Rattle.ts_name.proofs.holding.is_below.Goals as goal

pub returns-then-host-domain-eq46 : goal.returns-then-host-domain-eq46
returns-then-host-domain-eq46 c =
    let host = c.args.host.now in
    let domain = c.args.domain.now in (
      λ t. inr (below-by host domain c.if-host-domain.false c.if-host-domain-eq46.true (c.ends_in.ensures.0 t)),
      λ below. elim below [ inl same ↦ absurd (not-same host domain c.if-host-domain.false same) | inr ends ↦ c.ends_in.ensures.1 (below-only host domain ends).1 ],
    )

pub returns-else-host-domain-eq46 : goal.returns-else-host-domain-eq46
returns-else-host-domain-eq46 c =
    let host = c.args.host.now in
    let domain = c.args.domain.now in (
      λ t. absurd (c.if-host-domain-eq46.false (eqb-true _ _ t)),
      λ below. elim below [ inl same ↦ absurd (not-same host domain c.if-host-domain.false same) | inr ends ↦ absurd (c.if-host-domain-eq46.false (below-only host domain ends).0) ],
    )
