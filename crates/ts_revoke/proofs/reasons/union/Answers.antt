use Rattle.std.proofs.Common.{◌∙◌, sym}
use Rattle.ts_revoke.specs.Reasons.{union}
use Rattle.ts_revoke.proofs.Sets.{same_set, holds-union}
use Rattle.ts_revoke.proofs.reasons.union.Goals as goal

pub returns : goal.returns
returns c = same_set c.union.result (union c.args.s c.args.t) (λ flag. c.union.ensures flag ∙ sym (holds-union c.args.s c.args.t flag))
