use Rattle.std.proofs.Common.{◌∙◌, sym}
use Rattle.ts_revoke.specs.Reasons.{intersection}
use Rattle.ts_revoke.proofs.Sets.{same_set, holds-intersection}
use Rattle.ts_revoke.proofs.reasons.intersection.Goals as goal

pub returns : goal.returns
returns c = same_set c.intersection.result (intersection c.args.s c.args.t) (λ flag. c.intersection.ensures flag ∙ sym (holds-intersection c.args.s c.args.t flag))
