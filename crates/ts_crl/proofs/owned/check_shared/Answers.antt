use Rattle.std.proofs.Common.{ℕ, List, subst}
use Rattle.ts_crl.specs.inside.Kept.{Checks}
use Rattle.ts_crl.proofs.owned.check_shared.Goals as goal

pub returns : goal.returns
returns c = subst (λ (octets : List ℕ). Checks octets c.check.result) c.as_slice.ensures c.check.ensures
